-- A tree whose records have the words and the form of their kinds is the tree of the plan that is read from it.
-- Assumes nothing.
use Prim.Native.Nat.{ℕ, zero, suc, ◌+◌, ◌*◌, ◌-◌, ◌≤◌, ◌<◌}
use native.Mathlib.Omega.{arith}
use mathlib.Core.Path.{◌≡◌, refl, sym, ap, ◌∙◌}
use mathlib.Core.Bool.{Bool, true, false, cond, false≢true}
use mathlib.Core.List.{List, [], ◌∷◌}
use mathlib.Core.Option as O
use mathlib.Core.Option.{some}
use lib.Dec.{eqb, ltb}
use lib.ListN.{length}
use lib.IntN.{pos, negsuc}
use borrow.Author.Tests.{leb-true, eqb-true, eqb-false}
use Rattle.image.specs.Tree.{Label, Forest, none, node}
use Rattle.plan.proofs.Lists.{and_l, and_r}
use Rattle.plan.specs.Kinds as K
use Rattle.plan.specs.Kinds.{What, expr, plan, part, unknown, what, what_of, among, number_of, expr_w, plan_w, is_expr, is_plan, is_kind}
use Rattle.plan.specs.Words.{Range, WordRow, row_e, row_p, row_q, in_range, row_fits, words_by, words_ok, Worded}
use Rattle.plan.specs.Form.{end, one, past, perhaps, children_e, children_p, children_q, children_by, form_ok}
use Rattle.plan.specs.Syntax.{and, is_null, Exprs, enil, econs, count, inner, Plans}
use Rattle.plan.specs.Trees.{low_half, high_half, bit_of, op_number, test_number, join_number, agg_number, column_label, label_e, kids_e}
use Rattle.plan.specs.Trees.{forest_e, in_front, each, nothing_below, field_label, entry_label, entry_kids, pair_label, pair_kids, key_label}
use Rattle.plan.specs.Trees.{key_kids, agg_label, agg_kids, win_label, win_kids, fetch_bit, fetch_of, filter_kids, label_p, kids_p, forest_p}
use Rattle.plan.specs.Read.{signed, nth, ops, tests, joins, aggs, head_e, tail_e, list_e, perhaps_e, expr_of, expr_by, exprs_of, field_of}
use Rattle.plan.specs.Read.{entry_of, pair_of, key_of, agg_of, column_of, run, rest, win_of, head_p, tail_p, is_field, is_entry, is_pair, is_key}
use Rattle.plan.specs.Read.{is_agg, is_win, plan_from, plans_by, plans_of}

-- ---- all records of a forest

-- have the form of their kinds
abbrev pub Formed : Forest → Type 0
Formed none = Unit {0}
Formed (node l cs ns) = (form_ok l cs ≡ true) × Formed cs × Formed ns

-- the trees at the top are of a sort
abbrev pub Tops : (Label → Bool) → Forest → Type 0
Tops is none = Unit {0}
Tops is (node l cs ns) = (is l ≡ true) × Tops is ns

-- ---- kinds and their numbers

among_number : (ws : List What) (n : ℕ) (w : What) → among n ws ≡ w → (w ≡ unknown → ⊥) → n ≡ number_of w
unfolding among
among_number [] n w e h = absurd (h (sym e))
among_number (v ∷ ws) n w e h = go (eqb n (number_of v)) refl e (λ q. among_number ws n w q h)
  where
    go : (b : Bool) → eqb n (number_of v) ≡ b → cond b v (among n ws) ≡ w → (among n ws ≡ w → n ≡ number_of w) → n ≡ number_of w
    go true t q r = eqb-true n (number_of v) t ∙ ap number_of q
    go false t q r = r q

pub kind_e : (l : Label) (k : K.ExprKind) → what l ≡ expr k → l.kind ≡ K.number_e k
unfolding what_of
kind_e l k e = among_number K.kinds l.kind (expr k) e (λ q. let z : ◌≡◌ {A = ℕ} 0 1 = cc in omega arith)

pub kind_p : (l : Label) (k : K.PlanKind) → what l ≡ plan k → l.kind ≡ K.number_p k
unfolding what_of
kind_p l k e = among_number K.kinds l.kind (plan k) e (λ q. let z : ◌≡◌ {A = ℕ} 0 1 = cc in omega arith)

pub kind_w : (l : Label) (k : K.PartKind) → what l ≡ part k → l.kind ≡ K.number_q k
unfolding what_of
kind_w l k e = among_number K.kinds l.kind (part k) e (λ q. let z : ◌≡◌ {A = ℕ} 0 1 = cc in omega arith)

what_q : (q : K.PartKind) → what_of (K.number_q q) ≡ part q
unfolding what_of among
what_q K.FieldPart = refl
what_q K.EntryPart = refl
what_q K.PairPart = refl
what_q K.KeyPart = refl
what_q K.AggPart = refl
what_q K.WinPart = refl

kind_q : (q : K.PartKind) (l : Label) → is_kind (part q) l ≡ true → l.kind ≡ K.number_q q
kind_q q l h = eqb-true l.kind (K.number_q q) h

pub part_what : (q : K.PartKind) (l : Label) → is_kind (part q) l ≡ true → what l ≡ part q
part_what q l h = ap what_of (kind_q q l h) ∙ what_q q

column_what : (l : Label) → is_kind (expr K.Column) l ≡ true → what l ≡ expr K.Column
unfolding what_of among
column_what l h = ap what_of (eqb-true l.kind 1 h)

-- a sort's test, by the kind
pub expr_is : (l : Label) → is_expr l ≡ true → (k : K.ExprKind) × (what l ≡ expr k)
expr_is l h = go (what l) refl h
  where
    go : (w : What) → what l ≡ w → expr_w w ≡ true → (k : K.ExprKind) × (what l ≡ expr k)
    go (expr k) e t = (k, e)
    go (plan k) e t = absurd (false≢true t)
    go (part k) e t = absurd (false≢true t)
    go unknown e t = absurd (false≢true t)

pub plan_is : (l : Label) → is_plan l ≡ true → (k : K.PlanKind) × (what l ≡ plan k)
plan_is l h = go (what l) refl h
  where
    go : (w : What) → what l ≡ w → plan_w w ≡ true → (k : K.PlanKind) × (what l ≡ plan k)
    go (expr k) e t = absurd (false≢true t)
    go (plan k) e t = (k, e)
    go (part k) e t = absurd (false≢true t)
    go unknown e t = absurd (false≢true t)

-- ---- words

-- the bounds of the words
pub record Bounds (w : WordRow) (l : Label) : Type 0 where
  pub p₀ : w.p.low ≤ l.p
  pub p₁ : l.p ≤ w.p.high
  pub q₀ : w.q.low ≤ l.q
  pub q₁ : l.q ≤ w.q.high
  pub r₀ : w.r.low ≤ l.r
  pub r₁ : l.r ≤ w.r.high
  pub lo₀ : w.lo.low ≤ l.lo
  pub lo₁ : l.lo ≤ w.lo.high
  pub hi₀ : w.hi.low ≤ l.hi
  pub hi₁ : l.hi ≤ w.hi.high

low_of : (r : Range) (x : ℕ) → in_range r x ≡ true → r.low ≤ x
unfolding in_range
low_of r x h = leb-true r.low x (and_l _ _ h)

high_of : (r : Range) (x : ℕ) → in_range r x ≡ true → x ≤ r.high
unfolding in_range
high_of r x h = leb-true x r.high (and_r _ _ h)

pub bounds : (w : WordRow) (l : Label) → row_fits w l ≡ true → Bounds w l
unfolding row_fits
bounds w l h =
    let a = and_l _ _ h in
    let h₁ = and_r _ _ h in
    let b = and_l _ _ h₁ in
    let h₂ = and_r _ _ h₁ in
    let c = and_l _ _ h₂ in
    let h₃ = and_r _ _ h₂ in
    let d = and_l _ _ h₃ in
    let e = and_r _ _ h₃ in
    record {
      p₀ = low_of w.p l.p a;
      p₁ = high_of w.p l.p a;
      q₀ = low_of w.q l.q b;
      q₁ = high_of w.q l.q b;
      r₀ = low_of w.r l.r c;
      r₁ = high_of w.r l.r c;
      lo₀ = low_of w.lo l.lo d;
      lo₁ = high_of w.lo l.lo d;
      hi₀ = low_of w.hi l.hi e;
      hi₁ = high_of w.hi l.hi e;
    }

label_is : (l : Label) {k p q r lo hi : ℕ} → k ≡ l.kind → p ≡ l.p → q ≡ l.q → r ≡ l.r → lo ≡ l.lo → hi ≡ l.hi
    → ◌≡◌ {A = Label} (record { kind = k; p = p; q = q; r = r; lo = lo; hi = hi }) l
label_is l a b c d e f = λ i. record { kind = a i; p = b i; q = c i; r = d i; lo = e i; hi = f i }

bit_is : (p : ℕ) → p ≤ 1 → bit_of (eqb p 1) ≡ p
bit_is p h = go (eqb p 1) refl
  where
    go : (b : Bool) → eqb p 1 ≡ b → bit_of b ≡ p
    go true e = sym (eqb-true p 1 e)
    go false e = omega (arith, eqb-false p 1 e)

module _ {A : Type 0} (g : A → ℕ) (d : A) where
  -- the list's values are numbered from b on
  abbrev Numbered : ℕ → List A → Type 0
  Numbered b [] = Unit {0}
  Numbered b (x ∷ xs) = (g x ≡ b) × Numbered (suc b) xs

  nth_at : (xs : List A) (b i : ℕ) → Numbered b xs → i < length xs → g (nth d xs i) ≡ b + i
  unfolding nth
  nth_at [] b i h l = absurd (omega arith)
  nth_at (x ∷ xs) b zero h l = omega (arith, h.0)
  nth_at (x ∷ xs) b (suc i) h l = omega (arith, nth_at xs (suc b) i h.1 (omega arith))

op_is : (p : ℕ) → 1 ≤ p → p ≤ 8 → op_number (nth and ops (p - 1)) ≡ p
op_is p h k = omega (arith, nth_at op_number and ops 1 (p - 1) (refl, (refl, (refl, (refl, (refl, (refl, (refl, (refl, tt)))))))) (omega arith))

test_is : (p : ℕ) → 1 ≤ p → p ≤ 8 → test_number (nth is_null tests (p - 1)) ≡ p
test_is p h k = omega (
  arith,
  nth_at test_number is_null tests 1 (p - 1) (refl, (refl, (refl, (refl, (refl, (refl, (refl, (refl, tt))))))))
      (omega arith),
)

join_is : (p : ℕ) → 1 ≤ p → p ≤ 8 → join_number (nth inner joins (p - 1)) ≡ p
join_is p h k = omega (
  arith,
  nth_at join_number inner joins 1 (p - 1) (refl, (refl, (refl, (refl, (refl, (refl, (refl, (refl, tt))))))))
      (omega arith),
)

agg_is : (p : ℕ) → 1 ≤ p → p ≤ 3 → agg_number (nth count aggs (p - 1)) ≡ p
agg_is p h k = omega (arith, nth_at agg_number count aggs 1 (p - 1) (refl, (refl, (refl, tt))) (omega arith))

low_is : (lo hi : ℕ) → lo ≤ 4294967295 → hi ≤ 4294967295 → low_half (signed lo hi) ≡ lo
unfolding signed low_half
low_is lo hi a b = go (ltb hi 2147483648) refl
  where
    go : (t : Bool) → ltb hi 2147483648 ≡ t
        → low_half (cond t (pos (hi * 4294967296 + lo)) (negsuc ((4294967295 - hi) * 4294967296 + (4294967295 - lo)))) ≡ lo
    go true e = omega arith
    go false e = omega arith

high_is : (lo hi : ℕ) → lo ≤ 4294967295 → hi ≤ 4294967295 → high_half (signed lo hi) ≡ hi
unfolding signed high_half
high_is lo hi a b = go (ltb hi 2147483648) refl
  where
    go : (t : Bool) → ltb hi 2147483648 ≡ t
        → high_half (cond t (pos (hi * 4294967296 + lo)) (negsuc ((4294967295 - hi) * 4294967296 + (4294967295 - lo)))) ≡ hi
    go true e = omega arith
    go false e = omega arith

-- ---- expressions: the label, the children, the whole

label_e_lem : (k : K.ExprKind) (l : Label) (es : Exprs) → K.number_e k ≡ l.kind → Bounds (row_e k) l → label_e (expr_of k l es) ≡ l
unfolding label_e
label_e_lem K.Column l es e h = label_is l e refl refl (omega arith) (omega arith) (omega arith)
label_e_lem K.Integer l es e h = label_is l e (omega arith) (omega arith) (omega arith) (low_is l.lo l.hi h.lo₁ h.hi₁)
    (high_is l.lo l.hi h.lo₁ h.hi₁)
label_e_lem K.Boolean l es e h = label_is l e (bit_is l.p h.p₁) (omega arith) (omega arith) (omega arith) (omega arith)
label_e_lem K.Null l es e h = label_is l e refl (omega arith) (omega arith) (omega arith) (omega arith)
label_e_lem K.Binary l es e h = label_is l e (op_is l.p h.p₀ h.p₁) (omega arith) (omega arith) (omega arith) (omega arith)
label_e_lem K.Not l es e h = label_is l e (omega arith) (omega arith) (omega arith) (omega arith) (omega arith)
label_e_lem K.Test l es e h = label_is l e (test_is l.p h.p₀ h.p₁) (omega arith) (omega arith) (omega arith) (omega arith)
label_e_lem K.Between l es e h = label_is l e (bit_is l.p h.p₁) (omega arith) (omega arith) (omega arith) (omega arith)
label_e_lem K.InList l es e h = label_is l e (bit_is l.p h.p₁) (omega arith) (omega arith) (omega arith) (omega arith)
label_e_lem K.Function l es e h = label_is l e refl refl refl (omega arith) (omega arith)

pub tops_many : (is : Label → Bool) (f : Forest) → end (past is f) ≡ true → Tops is f
unfolding past end
tops_many is none h = tt
tops_many is (node l cs ns) h = go (is l) refl h (tops_many is ns)
  where
    go : (b : Bool) → is l ≡ b → end (cond b (past is ns) (node l cs ns)) ≡ true → (end (past is ns) ≡ true → Tops is ns) → Tops is (node l cs ns)
    go true e q r = (e, r q)
    go false e q r = absurd (false≢true q)

-- no children
leaf : (cs : Forest) → end cs ≡ true → cs ≡ none
unfolding end
leaf none h = refl
leaf (node l cs ns) h = absurd (false≢true h)

-- one, then the rest
pub record Head (is : Label → Bool) (then : Forest → Bool) (f : Forest) : Type 0 where
  pub label : Label
  pub below : Forest
  pub after : Forest
  pub whole : f ≡ node label below after
  pub is_so : is label ≡ true
  pub then_so : then after ≡ true

pub head : (is : Label → Bool) (then : Forest → Bool) (f : Forest) → one is then f ≡ true → Head is then f
unfolding one
head is then none h = absurd (false≢true h)
head is then (node l cs ns) h = record { label = l; below = cs; after = ns; whole = refl; is_so = and_l _ _ h; then_so = and_r _ _ h }

one_kid : (cs : Forest) → one is_expr end cs ≡ true → forest_e (exprs_of cs) ≡ cs → in_front (head_e (exprs_of cs)) none ≡ cs
unfolding one end kids_e forest_e exprs_of
one_kid none h ih = absurd (false≢true h)
one_kid (node a x none) h ih = ih
one_kid (node a x (node b y ns)) h ih = absurd (false≢true (and_r _ _ h))

two_kids : (cs : Forest) → one is_expr (one is_expr end) cs ≡ true → forest_e (exprs_of cs) ≡ cs
    → in_front (head_e (exprs_of cs)) (in_front (head_e (tail_e (exprs_of cs))) none) ≡ cs
unfolding one end kids_e forest_e exprs_of
two_kids none h ih = absurd (false≢true h)
two_kids (node a x none) h ih = absurd (false≢true (and_r _ _ h))
two_kids (node a x (node b y none)) h ih = ih
two_kids (node a x (node b y (node c z ns))) h ih = absurd (false≢true (and_r _ _ (and_r _ _ h)))

three_kids : (cs : Forest) → one is_expr (one is_expr (one is_expr end)) cs ≡ true → forest_e (exprs_of cs) ≡ cs
    → in_front (head_e (exprs_of cs)) (in_front (head_e (tail_e (exprs_of cs))) (in_front (head_e (tail_e (tail_e (exprs_of cs)))) none)) ≡ cs
unfolding one end kids_e forest_e exprs_of
three_kids none h ih = absurd (false≢true h)
three_kids (node a x none) h ih = absurd (false≢true (and_r _ _ h))
three_kids (node a x (node b y none)) h ih = absurd (false≢true (and_r _ _ (and_r _ _ h)))
three_kids (node a x (node b y (node c z none))) h ih = ih
three_kids (node a x (node b y (node c z (node d v ns)))) h ih = absurd (false≢true (and_r _ _ (and_r _ _ (and_r _ _ h))))

some_kids : (cs : Forest) → one is_expr (λ f. one is_expr (λ g. end (past is_expr g)) f) cs ≡ true → forest_e (exprs_of cs) ≡ cs
    → in_front (head_e (exprs_of cs)) (forest_e (tail_e (exprs_of cs))) ≡ cs
unfolding one kids_e forest_e exprs_of
some_kids none h ih = absurd (false≢true h)
some_kids (node a x ns) h ih = ih

kids_e_lem : (k : K.ExprKind) (l : Label) (cs : Forest) → children_e k cs ≡ true → forest_e (exprs_of cs) ≡ cs → kids_e (expr_of k l (exprs_of cs)) ≡ cs
unfolding kids_e forest_e
kids_e_lem K.Column l cs h ih = sym (leaf cs h)
kids_e_lem K.Integer l cs h ih = sym (leaf cs h)
kids_e_lem K.Boolean l cs h ih = sym (leaf cs h)
kids_e_lem K.Null l cs h ih = sym (leaf cs h)
kids_e_lem K.Binary l cs h ih = two_kids cs h ih
kids_e_lem K.Not l cs h ih = one_kid cs h ih
kids_e_lem K.Test l cs h ih = one_kid cs h ih
kids_e_lem K.Between l cs h ih = three_kids cs h ih
kids_e_lem K.InList l cs h ih = some_kids cs h ih
kids_e_lem K.Function l cs h ih = ih

-- the children of an expression are expressions
tops_end : (is : Label → Bool) (f : Forest) → end f ≡ true → Tops is f
unfolding end
tops_end is none h = tt
tops_end is (node l cs ns) h = absurd (false≢true h)

tops_one : (is : Label → Bool) (then : Forest → Bool) (f : Forest) → ((g : Forest) → then g ≡ true → Tops is g) → one is then f ≡ true → Tops is f
unfolding one
tops_one is then none r h = absurd (false≢true h)
tops_one is then (node l cs ns) r h = (and_l _ _ h, r ns (and_r _ _ h))

tops_e : (k : K.ExprKind) (cs : Forest) → children_e k cs ≡ true → Tops is_expr cs
tops_e K.Column cs h = tops_end is_expr cs h
tops_e K.Integer cs h = tops_end is_expr cs h
tops_e K.Boolean cs h = tops_end is_expr cs h
tops_e K.Null cs h = tops_end is_expr cs h
tops_e K.Binary cs h = tops_one is_expr _ cs (λ f. tops_one is_expr _ f (tops_end is_expr)) h
tops_e K.Not cs h = tops_one is_expr _ cs (tops_end is_expr) h
tops_e K.Test cs h = tops_one is_expr _ cs (tops_end is_expr) h
tops_e K.Between cs h = tops_one is_expr _ cs (λ f. tops_one is_expr _ f (λ g. tops_one is_expr _ g (tops_end is_expr))) h
tops_e K.InList cs h = tops_one is_expr _ cs (λ f. tops_one is_expr _ f (tops_many is_expr)) h
tops_e K.Function cs h = tops_many is_expr cs h

-- a record's two rules, by its kind
pub words_at : (l : Label) (w : What) → what l ≡ w → words_ok l ≡ true → words_by w l ≡ true
unfolding words_ok
words_at l w e h = rw e at h

form_at : (l : Label) (cs : Forest) (w : What) → what l ≡ w → form_ok l cs ≡ true → children_by w cs ≡ true
unfolding form_ok
form_at l cs w e h = rw e at (and_l _ _ h)

-- the expression of a record, in front of other trees
expr_node : (l : Label) (cs y : Forest) → is_expr l ≡ true → words_ok l ≡ true → form_ok l cs ≡ true
    → (Tops is_expr cs → forest_e (exprs_of cs) ≡ cs) → in_front (expr_by (what l) l (exprs_of cs)) y ≡ node l cs y
expr_node l cs y h w f ih =
    let k = (expr_is l h).0 in
    let e : what l ≡ expr k = (expr_is l h).1 in
    let c : children_e k cs ≡ true = form_at l cs (expr k) e f in
    rw (e, label_e_lem k l (exprs_of cs) (sym (kind_e l k e)) (bounds (row_e k) l (words_at l (expr k) e w)), kids_e_lem k l cs c (ih (tops_e k cs c)))

pub exprs_whole : (f : Forest) → Worded f → Formed f → Tops is_expr f → forest_e (exprs_of f) ≡ f
unfolding forest_e kids_e exprs_of
exprs_whole none w f t = refl
exprs_whole (node l cs ns) w f t = rw (exprs_whole ns w.2 f.2 t.1) (expr_node l cs ns t.0 w.0 f.0 (exprs_whole cs w.1 f.1))

-- ---- runs of parts

module _ {A : Type 0} (is : Label → Bool) (make : Label → Forest → A) (lab : A → Label) (kids : A → Forest)
    (label-back : (l : Label) (c : Forest) → is l ≡ true → words_ok l ≡ true → form_ok l c ≡ true → lab (make l c) ≡ l)
    (kids-back : (l : Label) (c : Forest) → is l ≡ true → Worded c → Formed c → form_ok l c ≡ true → kids (make l c) ≡ c) where
  runs_whole : (f : Forest) → Worded f → Formed f → each lab kids (run is make f) (past is f) ≡ f
  unfolding each run past
  runs_whole none w o = refl
  runs_whole (node l c ns) w o = go (is l) refl (runs_whole ns w.2 o.2)
    where
      go : (b : Bool) → is l ≡ b → each lab kids (run is make ns) (past is ns) ≡ ns
          → each lab kids (cond b (make l c ∷ run is make ns) []) (cond b (past is ns) (node l c ns)) ≡ node l c ns
      go true e ih = rw (label-back l c e w.0 o.0, kids-back l c e w.1 o.1 o.0, ih)
      go false e ih = refl

pub worded_past : (is : Label → Bool) (f : Forest) → Worded f → Worded (past is f)
unfolding past
worded_past is none h = tt
worded_past is (node l cs ns) h = go (is l) (worded_past is ns h.2)
  where
    go : (b : Bool) → Worded (past is ns) → Worded (cond b (past is ns) (node l cs ns))
    go true r = r
    go false r = h

formed_past : (is : Label → Bool) (f : Forest) → Formed f → Formed (past is f)
unfolding past
formed_past is none h = tt
formed_past is (node l cs ns) h = go (is l) (formed_past is ns h.2)
  where
    go : (b : Bool) → Formed (past is ns) → Formed (cond b (past is ns) (node l cs ns))
    go true r = r
    go false r = h

plans_past : (q : K.PartKind) (f : Forest) → plans_of f ≡ plans_of (past (is_kind (part q)) f)
unfolding past plans_of
plans_past q none = refl
plans_past q (node l cs ns) = go (is_kind (part q) l) refl (plans_past q ns)
  where
    go : (b : Bool) → is_kind (part q) l ≡ b → plans_of ns ≡ plans_of (past (is_kind (part q)) ns)
        → plans_by (what l) l cs (plans_of cs) (plans_of ns) ≡ plans_of (cond b (past (is_kind (part q)) ns) (node l cs ns))
    go true e ih = rw (part_what q l e) ih
    go false e ih = refl

-- ---- parts: the label and the children

label_q : (q : K.PartKind) (l : Label) → is_kind (part q) l ≡ true → words_ok l ≡ true → Bounds (row_q q) l
label_q q l h w = bounds (row_q q) l (words_at l (part q) (part_what q l h) w)

form_q : (q : K.PartKind) (l : Label) (c : Forest) → is_kind (part q) l ≡ true → form_ok l c ≡ true → children_q q c ≡ true
form_q q l c h f = form_at l c (part q) (part_what q l h) f

module _ (l : Label) (c : Forest) where
  field_label_lem : is_field l ≡ true → words_ok l ≡ true → form_ok l c ≡ true → field_label (field_of l c) ≡ l
  field_label_lem h w f = let b = label_q K.FieldPart l h w in label_is l (sym (kind_q K.FieldPart l h)) refl refl refl (bit_is l.lo b.lo₁)
      (omega arith)

  field_kids : is_field l ≡ true → Worded c → Formed c → form_ok l c ≡ true → none ≡ c
  field_kids h w o f = sym (leaf c (form_q K.FieldPart l c h f))

  entry_label_lem : is_entry l ≡ true → words_ok l ≡ true → form_ok l c ≡ true → entry_label (entry_of l c) ≡ l
  entry_label_lem h w f = let b = label_q K.EntryPart l h w in label_is l (sym (kind_q K.EntryPart l h)) refl refl (omega arith) (omega arith)
      (omega arith)

  entry_kids_lem : is_entry l ≡ true → Worded c → Formed c → form_ok l c ≡ true → entry_kids (entry_of l c) ≡ c
  entry_kids_lem h w o f = let k = form_q K.EntryPart l c h f in one_kid c k (exprs_whole c w o (tops_one is_expr _ c (tops_end is_expr) k))

  pair_label_lem : is_pair l ≡ true → words_ok l ≡ true → form_ok l c ≡ true → pair_label (pair_of l c) ≡ l
  pair_label_lem h w f = let b = label_q K.PairPart l h w in label_is l (sym (kind_q K.PairPart l h)) (omega arith) (omega arith) (omega arith)
      (omega arith) (omega arith)

  pair_kids_lem : is_pair l ≡ true → Worded c → Formed c → form_ok l c ≡ true → pair_kids (pair_of l c) ≡ c
  pair_kids_lem h w o f = let k = form_q K.PairPart l c h f in two_kids c k
      (exprs_whole c w o (tops_one is_expr _ c (λ g. tops_one is_expr _ g (tops_end is_expr)) k))

  key_label_lem : is_key l ≡ true → words_ok l ≡ true → form_ok l c ≡ true → key_label (key_of l c) ≡ l
  key_label_lem h w f = let b = label_q K.KeyPart l h w in label_is l (sym (kind_q K.KeyPart l h)) (bit_is l.p b.p₁) (omega arith)
      (omega arith) (omega arith) (omega arith)

  key_kids_lem : is_key l ≡ true → Worded c → Formed c → form_ok l c ≡ true → key_kids (key_of l c) ≡ c
  key_kids_lem h w o f = let k = form_q K.KeyPart l c h f in one_kid c k (exprs_whole c w o (tops_one is_expr _ c (tops_end is_expr) k))

  agg_label_lem : is_agg l ≡ true → words_ok l ≡ true → form_ok l c ≡ true → agg_label (agg_of l c) ≡ l
  agg_label_lem h w f = let b = label_q K.AggPart l h w in label_is l (sym (kind_q K.AggPart l h)) refl refl (agg_is l.r b.r₀ b.r₁)
      (omega arith) (omega arith)

  agg_kids_lem : is_agg l ≡ true → Worded c → Formed c → form_ok l c ≡ true → agg_kids (agg_of l c) ≡ c
  agg_kids_lem h w o f = let k = form_q K.AggPart l c h f in one_kid c k (exprs_whole c w o (tops_one is_expr _ c (tops_end is_expr) k))

  win_label_lem : is_win l ≡ true → words_ok l ≡ true → form_ok l c ≡ true → win_label (win_of l c) ≡ l
  win_label_lem h w f = let b = label_q K.WinPart l h w in label_is l (sym (kind_q K.WinPart l h)) refl refl (agg_is l.r b.r₀ b.r₁)
      (omega arith) (omega arith)

  column_label_lem : is_kind (expr K.Column) l ≡ true → words_ok l ≡ true → form_ok l c ≡ true → column_label (column_of l c) ≡ l
  column_label_lem h w f = let b = bounds (row_e K.Column) l (words_at l (expr K.Column) (column_what l h) w) in label_is l
      (sym (eqb-true l.kind 1 h)) refl refl (omega arith) (omega arith) (omega arith)

  column_kids : is_kind (expr K.Column) l ≡ true → Worded c → Formed c → form_ok l c ≡ true → none ≡ c
  column_kids h w o f = sym (leaf c (form_at l c (expr K.Column) (column_what l h) f))

columns_whole : (f : Forest) → Worded f → Formed f → end (past (is_kind (expr K.Column)) f) ≡ true
    → each column_label nothing_below (run (is_kind (expr K.Column)) column_of f) none ≡ f
columns_whole f w o h = rw (leaf (past (is_kind (expr K.Column)) f) h) at
    (runs_whole (is_kind (expr K.Column)) column_of column_label nothing_below column_label_lem column_kids f w o)

win_kids_lem : (l : Label) (c : Forest) → is_win l ≡ true → Worded c → Formed c → form_ok l c ≡ true → win_kids (win_of l c) ≡ c
unfolding one exprs_of
win_kids_lem l c h w o f = go c w o (form_q K.WinPart l c h f)
  where
    go : (c : Forest) → Worded c → Formed c → children_q K.WinPart c ≡ true → win_kids (win_of l c) ≡ c
    go none w o k = absurd (false≢true k)
    go (node a x ns) w o k = rw (columns_whole ns w.2 o.2 (and_r _ _ k))
        (expr_node a x ns (and_l _ _ k) w.0 o.0 (exprs_whole x w.1 o.1))

-- ---- plans: the label

fetch_bit_lem : (p lo : ℕ) → p ≤ 1 → fetch_bit (cond (eqb p 1) (some lo) O.none) ≡ p
fetch_bit_lem p lo h = go (eqb p 1) refl
  where
    go : (b : Bool) → eqb p 1 ≡ b → fetch_bit (cond b (some lo) O.none) ≡ p
    go true e = sym (eqb-true p 1 e)
    go false e = omega (arith, eqb-false p 1 e)

fetch_is : (p lo : ℕ) → lo ≤ (cond (eqb p 1) (Rattle.plan.specs.Words.any_word) Rattle.plan.specs.Words.unused).high
    → fetch_of (cond (eqb p 1) (some lo) O.none) ≡ lo
fetch_is p lo h = go (eqb p 1) h
  where
    go : (b : Bool) → lo ≤ (cond b (Rattle.plan.specs.Words.any_word) Rattle.plan.specs.Words.unused).high
        → fetch_of (cond b (some lo) O.none) ≡ lo
    go true h = refl
    go false h = omega arith

label_p_lem : (k : K.PlanKind) (l : Label) (cs : Forest) (ps : Plans) → K.number_p k ≡ l.kind → Bounds (row_p k l.p) l → label_p (plan_from k l cs ps) ≡ l
unfolding label_p
label_p_lem K.TableScan l cs ps e h = label_is l e refl (omega arith) (omega arith) (omega arith) (omega arith)
label_p_lem K.Filter l cs ps e h = label_is l e (omega arith) (omega arith) (omega arith) (omega arith) (omega arith)
label_p_lem K.Projection l cs ps e h = label_is l e (omega arith) (omega arith) (omega arith) (omega arith) (omega arith)
label_p_lem K.Join l cs ps e h = label_is l e (join_is l.p h.p₀ h.p₁) (omega arith) (omega arith) (omega arith) (omega arith)
label_p_lem K.SubqueryAlias l cs ps e h = label_is l e refl (omega arith) (omega arith) (omega arith) (omega arith)
label_p_lem K.Union l cs ps e h = label_is l e (omega arith) (omega arith) (omega arith) (omega arith) (omega arith)
label_p_lem K.Distinct l cs ps e h = label_is l e (omega arith) (omega arith) (omega arith) (omega arith) (omega arith)
label_p_lem K.Sort l cs ps e h = label_is l e (fetch_bit_lem l.p l.lo h.p₁) (omega arith) (omega arith) (fetch_is l.p l.lo h.lo₁)
    (omega arith)
label_p_lem K.Repartition l cs ps e h = label_is l e (omega arith) (omega arith) (omega arith) (omega arith) (omega arith)
label_p_lem K.Limit l cs ps e h = label_is l e (omega arith) (omega arith) (omega arith) refl refl
label_p_lem K.Aggregate l cs ps e h = label_is l e (omega arith) (omega arith) (omega arith) (omega arith) (omega arith)
label_p_lem K.Window l cs ps e h = label_is l e (omega arith) (omega arith) (omega arith) (omega arith) (omega arith)

-- ---- plans: the children

-- the plan of a record has the record's label and children
pub record Rebuilt (k : K.PlanKind) (l : Label) (cs : Forest) : Type 0 where
  pub label : label_p (plan_from k l cs (plans_of cs)) ≡ l
  pub below : kids_p (plan_from k l cs (plans_of cs)) ≡ cs

-- so has each plan at the top of a forest
abbrev pub Rebuilds : Forest → Type 0
Rebuilds none = Unit {0}
Rebuilds (node l cs ns) = ((k : K.PlanKind) → what l ≡ plan k → Rebuilt k l cs) × Rebuilds ns

rebuilds_past : (is : Label → Bool) (f : Forest) → Rebuilds f → Rebuilds (past is f)
unfolding past
rebuilds_past is none h = tt
rebuilds_past is (node l cs ns) h = go (is l) (rebuilds_past is ns h.1)
  where
    go : (b : Bool) → Rebuilds (past is ns) → Rebuilds (cond b (past is ns) (node l cs ns))
    go true r = r
    go false r = h

module _ (l : Label) (cs ns : Forest) (h : is_plan l ≡ true) (r : (k : K.PlanKind) → what l ≡ plan k → Rebuilt k l cs) where
  pub plan_head : (y : Forest) → node (label_p (head_p (plans_of (node l cs ns)))) (kids_p (head_p (plans_of (node l cs ns)))) y ≡ node l cs y
  unfolding plans_of
  plan_head y =
      let k = (plan_is l h).0 in
      let e : what l ≡ plan k = (plan_is l h).1 in
      rw (e, (r k e).label, (r k e).below)

  plan_tail : tail_p (plans_of (node l cs ns)) ≡ plans_of ns
  unfolding plans_of
  plan_tail = rw (plan_is l h).1

one_plan : (f : Forest) → one is_plan end f ≡ true → Rebuilds f → node (label_p (head_p (plans_of f))) (kids_p (head_p (plans_of f))) none ≡ f
unfolding one end
one_plan none h r = absurd (false≢true h)
one_plan (node l cs none) h r = plan_head l cs none (and_l _ _ h) r.0 none
one_plan (node l cs (node a x ns)) h r = absurd (false≢true (and_r _ _ h))

-- one of a sort in front, and what is past it
past_one : (is : Label → Bool) (then : Forest → Bool) (f : Forest) → one is (λ g. then (past is g)) f ≡ true → then (past is f) ≡ true
unfolding one past
past_one is then none h = absurd (false≢true h)
past_one is then (node l cs ns) h = rw (and_l _ _ h) (and_r _ _ h)

each_exprs : (es : Exprs) → each label_e kids_e (list_e es) none ≡ forest_e es
unfolding each forest_e kids_e
each_exprs enil = refl
each_exprs (econs x xs) = rw (each_exprs xs)

own_kids : (f : Forest) → Worded f → Formed f → perhaps is_expr f ≡ true → filter_kids (perhaps_e (exprs_of f)) ≡ f
unfolding perhaps end exprs_of
own_kids none w o h = refl
own_kids (node l cs none) w o h = expr_node l cs none (and_l _ _ h) w.0 o.0 (exprs_whole cs w.1 o.1)
own_kids (node l cs (node a x ns)) w o h = absurd (false≢true (and_r _ _ h))

filter_kids_lem : (f : Forest) → Worded f → Formed f → Rebuilds f → one is_expr (one is_plan end) f ≡ true
    → in_front (head_e (exprs_of f)) (node (label_p (head_p (plans_of f))) (kids_p (head_p (plans_of f))) none) ≡ f
unfolding one exprs_of plans_of
filter_kids_lem none w o r h = absurd (false≢true h)
filter_kids_lem (node l cs ns) w o r h = rw ((expr_is l (and_l _ _ h)).1, one_plan ns (and_r _ _ h) r.1)
    (rw (expr_is l (and_l _ _ h)).1 at (expr_node l cs ns (and_l _ _ h) w.0 o.0 (exprs_whole cs w.1 o.1)))

-- a run of parts, then one plan
module _ {A : Type 0} (q : K.PartKind) (make : Label → Forest → A) (lab : A → Label) (kids : A → Forest)
    (label-back : (l : Label) (c : Forest) → is_kind (part q) l ≡ true → words_ok l ≡ true → form_ok l c ≡ true → lab (make l c) ≡ l)
    (kids-back : (l : Label) (c : Forest) → is_kind (part q) l ≡ true → Worded c → Formed c → form_ok l c ≡ true → kids (make l c) ≡ c)
    (f : Forest) (w : Worded f) (o : Formed f) (r : Rebuilds f) (h : one is_plan end (past (is_kind (part q)) f) ≡ true) where
  run_plan : each lab kids (run (is_kind (part q)) make f) (node (label_p (head_p (plans_of f))) (kids_p (head_p (plans_of f))) none) ≡ f
  run_plan = rw (plans_past q f, one_plan (past (is_kind (part q)) f) h (rebuilds_past (is_kind (part q)) f r))
      (runs_whole (is_kind (part q)) make lab kids label-back kids-back f w o)

join_kids : (f : Forest) → Worded f → Formed f → Rebuilds f → one is_plan (one is_plan (λ g. perhaps is_expr (past is_pair g))) f ≡ true
    → node (label_p (head_p (plans_of f))) (kids_p (head_p (plans_of f))) (node (label_p (head_p (tail_p (plans_of f)))) (kids_p (head_p (tail_p (plans_of f))))
    (each pair_label pair_kids (run is_pair pair_of (rest (rest f))) (filter_kids (perhaps_e (exprs_of (past is_pair (rest (rest f)))))))) ≡ f
unfolding one
join_kids none w o r h = absurd (false≢true h)
join_kids (node l cs none) w o r h = absurd (false≢true (and_r _ _ h))
join_kids (node l cs (node a x ns)) w o r h =
    rw (
      plan_head l cs (node a x ns) (and_l _ _ h) r.0,
      plan_tail l cs (node a x ns) (and_l _ _ h) r.0,
      plan_head a x ns (and_l _ _ (and_r _ _ h)) r.1.0,
      own_kids (past is_pair ns) (worded_past is_pair ns w.2.2) (formed_past is_pair ns o.2.2) (and_r _ _ (and_r _ _ h)),
      runs_whole is_pair pair_of pair_label pair_kids pair_label_lem pair_kids_lem ns w.2.2 o.2.2,
    )

union_kids : (f : Forest) → Rebuilds f → Tops is_plan f → forest_p (plans_of f) ≡ f
unfolding plans_of forest_p kids_p
union_kids none r t = refl
union_kids (node l cs ns) r t =
    let k = (plan_is l t.0).0 in
    let e : what l ≡ plan k = (plan_is l t.0).1 in
    rw (e, (r.0 k e).label, (r.0 k e).below, union_kids ns r.1 t.1)

kids_p_lem : (k : K.PlanKind) (l : Label) (cs : Forest) → Worded cs → Formed cs → Rebuilds cs → children_p k cs ≡ true
    → kids_p (plan_from k l cs (plans_of cs)) ≡ cs
unfolding kids_p forest_p
kids_p_lem K.TableScan l cs w o r h =
    rw (
      each_exprs (exprs_of (past is_field cs)),
      exprs_whole (past is_field cs) (worded_past is_field cs w) (formed_past is_field cs o)
          (tops_many is_expr (past is_field cs) h),
    )
    (runs_whole is_field field_of field_label nothing_below field_label_lem field_kids cs w o)
kids_p_lem K.Filter l cs w o r h = filter_kids_lem cs w o r h
kids_p_lem K.Projection l cs w o r h = run_plan K.EntryPart entry_of entry_label entry_kids entry_label_lem entry_kids_lem cs w o r
    (past_one is_entry (one is_plan end) cs h)
kids_p_lem K.Join l cs w o r h = join_kids cs w o r h
kids_p_lem K.SubqueryAlias l cs w o r h = one_plan cs h r
kids_p_lem K.Union l cs w o r h = union_kids cs r (tops_one is_plan _ cs (λ f. tops_one is_plan _ f (tops_many is_plan)) h)
kids_p_lem K.Distinct l cs w o r h = one_plan cs h r
kids_p_lem K.Sort l cs w o r h = run_plan K.KeyPart key_of key_label key_kids key_label_lem key_kids_lem cs w o r h
kids_p_lem K.Repartition l cs w o r h = one_plan cs h r
kids_p_lem K.Limit l cs w o r h = one_plan cs h r
kids_p_lem K.Aggregate l cs w o r h =
    rw (
      plans_past K.EntryPart cs,
      run_plan K.AggPart agg_of agg_label agg_kids agg_label_lem agg_kids_lem (past is_entry cs) (worded_past is_entry cs w)
          (formed_past is_entry cs o) (rebuilds_past is_entry cs r) (and_l _ _ h),
    )
    (runs_whole is_entry entry_of entry_label entry_kids entry_label_lem entry_kids_lem cs w o)
kids_p_lem K.Window l cs w o r h = run_plan K.WinPart win_of win_label win_kids win_label_lem win_kids_lem cs w o r (past_one is_win (one is_plan end) cs h)

pub plans_whole : (f : Forest) → Worded f → Formed f → Rebuilds f
plans_whole none w o = tt
plans_whole (node l cs ns) w o = (go (plans_whole cs w.1 o.1), plans_whole ns w.2 o.2)
  where
    go : Rebuilds cs → (k : K.PlanKind) → what l ≡ plan k → Rebuilt k l cs
    go r k e =
        record {
          label = label_p_lem k l cs (plans_of cs) (sym (kind_p l k e)) (bounds (row_p k l.p) l (words_at l (plan k) e w.0));
          below = kids_p_lem k l cs w.1 o.1 r (form_at l cs (plan k) e o.0);
        }
