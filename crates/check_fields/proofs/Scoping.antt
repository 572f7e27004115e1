-- Laws of scopes: what is counted and typed in them, and what is handed down.
-- Assumes nothing.
use mathlib.Core.Path.{◌≡◌, refl, sym, ap, ◌∙◌}
use mathlib.Core.Bool.{Bool, true, false, cond, ◌&&◌}
use mathlib.Core.List.{[], ◌∷◌, ◌++◌, append-nil}
use Prim.Native.Nat.{ℕ, suc, ◌+◌, ◌*◌, ◌≤◌}
use native.Mathlib.Omega.{arith}
use lib.Dec.{eqb}
use borrow.Author.Tests.{ne_eqb}
use lib.ListN.{length, length-append}
use Rattle.image.specs.Tree.{Label, Forest}
use Rattle.image.specs.Subtrees.{forest}
use Rattle.image.specs.declared.trees.Stretches.{Stretches}
use Rattle.plan.specs.Lists.{◌&◌}
use Rattle.plan.specs.Schema.{same}
use Rattle.plan.specs.Kinds as K
use Rattle.plan.specs.Kinds.{What, expr, plan, part, unknown, what, what_of, plan_w, is_plan}
use Rattle.plan.specs.Syntax.{Name, nm}
use Rattle.check_fields.specs.declared.scopes.View.{View}
use Rattle.check_fields.specs.declared.scopes.View.TheVariants.{Nothing, FirstInput, SecondInput, BothInputs, Parts, FirstInputAndParts}
use Rattle.check_fields.specs.declared.questions.Question.TheVariants.{Exact}
use Rattle.check_fields.specs.Fields.{Schema, input, made, inputs, names_in}
use Rattle.acceptance.specs.Names.{holders}
use Rattle.check_fields.specs.Rules.{Scope, over, seen, hand, hand_by, hand_p}
use Rattle.plan.proofs.Rebuilt.{kind_w, kind_e}
use Rattle.check_fields.specs.Count.{hits, counted}
use Rattle.std.specs.declared.ops.ControlFlow.TheVariants.{Continue}
use Rattle.check_fields.specs.Seek.{Sought, seek, told, type_found, passed_of, all_places}
use Rattle.check_fields.specs.declared.fields.FieldType.{FieldType}
use Rattle.check_fields.specs.declared.fields.FieldType.TheVariants.{Named}
use Rattle.check_fields.proofs.Seeking.{onward, seek-++, seek_name, seek_passed}
use Rattle.check_fields.proofs.Counting.{counted_le, enough, trees_size, total, total_input, total_two}
use Rattle.check_fields.specs.Scopes.{scope_of, view_p, view_w, left_of, right_of, first_view, rest_view}

-- ---- counting

-- a name's holders are the fields that have its qualifier and its name
pub counted_name : (q n : ℕ) (s : Schema) → counted (hits (Exact q n)) s ≡ holders (names_in s) (nm q n)
unfolding counted holders names_in ◌&◌
counted_name q n [] = refl
counted_name q n (f ∷ s) = step f.name (counted_name q n s)
  where
    and : (a b : Bool) (x : ℕ) → cond (a && b) (x + 1) x ≡ cond (a & b) (suc x) x
    and true true x = omega arith
    and true false x = refl
    and false b x = refl

    step : (x : Name) → counted (hits (Exact q n)) s ≡ holders (names_in s) (nm q n)
        → cond (hits (Exact q n) x) (counted (hits (Exact q n)) s + 1) (counted (hits (Exact q n)) s)
        ≡ cond (same x (nm q n)) (suc (holders (names_in s) (nm q n))) (holders (names_in s) (nm q n))
    step (nm r m) e = rw e (and (eqb r q) (eqb m n) (holders (names_in s) (nm q n)))

-- ---- what is handed down

-- a plan's scope by what its children see
pub hand_p_lem : (k : K.PlanKind) (cs : Forest) → hand_p k cs (inputs cs) ≡ scope_of (view_p k) cs
hand_p_lem K.TableScan cs = refl
hand_p_lem K.Filter cs = refl
hand_p_lem K.Projection cs = refl
hand_p_lem K.Join cs = refl
hand_p_lem K.SubqueryAlias cs = refl
hand_p_lem K.Union cs = refl
hand_p_lem K.Distinct cs = refl
hand_p_lem K.Sort cs = refl
hand_p_lem K.Repartition cs = refl
hand_p_lem K.Limit cs = refl
hand_p_lem K.Aggregate cs = refl
hand_p_lem K.Window cs = refl

-- a key pair's first child: the left input
pair_first : (v : View) (g : Forest) → over (scope_of v g).left [] ≡ scope_of (left_of v) g
pair_first Nothing g = refl
pair_first FirstInput g = refl
pair_first SecondInput g = refl
pair_first BothInputs g = refl
pair_first Parts g = refl
pair_first FirstInputAndParts g = refl

-- its other children: the right input
pair_rest : (v : View) (g : Forest) → over (scope_of v g).right [] ≡ scope_of (right_of v) g
pair_rest Nothing g = refl
pair_rest FirstInput g = refl
pair_rest SecondInput g = refl
pair_rest BothInputs g = refl
pair_rest Parts g = refl
pair_rest FirstInputAndParts g = refl

-- a key pair is known
no_pair : what_of (K.number_q K.PairPart) ≡ unknown → ⊥
unfolding what_of K.among
no_pair k = let z : ◌≡◌ {A = ℕ} 0 1 = cc in omega arith

-- a record that is no plan hands on the scope that it has, but for key pairs
hand_q : (n : View) (g : Forest) (l : Label) (cs : Forest) (w : What) → what l ≡ w → plan_w w ≡ false
    → hand_by w (scope_of n g) cs ≡ (scope_of (first_view l.kind n) g, scope_of (rest_view l.kind n) g)
hand_q n g l cs (part K.PairPart) e z = rw (kind_w l K.PairPart e, ← pair_first n g, ← pair_rest n g) refl
hand_q n g l cs (part K.FieldPart) e z = rw (kind_w l K.FieldPart e) refl
hand_q n g l cs (part K.EntryPart) e z = rw (kind_w l K.EntryPart e) refl
hand_q n g l cs (part K.KeyPart) e z = rw (kind_w l K.KeyPart e) refl
hand_q n g l cs (part K.AggPart) e z = rw (kind_w l K.AggPart e) refl
hand_q n g l cs (part K.WinPart) e z = rw (kind_w l K.WinPart e) refl
hand_q n g l cs (expr K.Column) e z = rw (kind_e l K.Column e) refl
hand_q n g l cs (expr K.Integer) e z = rw (kind_e l K.Integer e) refl
hand_q n g l cs (expr K.Boolean) e z = rw (kind_e l K.Boolean e) refl
hand_q n g l cs (expr K.Null) e z = rw (kind_e l K.Null e) refl
hand_q n g l cs (expr K.Binary) e z = rw (kind_e l K.Binary e) refl
hand_q n g l cs (expr K.Not) e z = rw (kind_e l K.Not e) refl
hand_q n g l cs (expr K.Test) e z = rw (kind_e l K.Test e) refl
hand_q n g l cs (expr K.Between) e z = rw (kind_e l K.Between e) refl
hand_q n g l cs (expr K.InList) e z = rw (kind_e l K.InList e) refl
hand_q n g l cs (expr K.Function) e z = rw (kind_e l K.Function e) refl
hand_q n g l cs (plan k) e z = let y : ◌≡◌ {A = ℕ} 0 1 = cc in absurd (omega arith)
hand_q n g l cs unknown e z = rw (ne_eqb l.kind (K.number_q K.PairPart)
    (λ q. let k : what_of (K.number_q K.PairPart) ≡ unknown = ap what_of (sym q) ∙ e in no_pair k)) refl

module _ (l : Label) (cs : Forest) where
  -- a plan hands its own scope to all its children
  pub hand_plan : (c : Scope) (r : View) → r ≡ view_w (what l) → is_plan l ≡ true → hand c l cs ≡ (scope_of r cs, scope_of r cs)
  unfolding hand
  hand_plan c r e z = go (what l) e z
    where
      go : (u : What) → r ≡ view_w u → plan_w u ≡ true → hand_by u c cs ≡ (scope_of r cs, scope_of r cs)
      go (expr k) q y = let x : ◌≡◌ {A = ℕ} 0 1 = cc in absurd (omega arith)
      go (K.part k) q y = let x : ◌≡◌ {A = ℕ} 0 1 = cc in absurd (omega arith)
      go unknown q y = let x : ◌≡◌ {A = ℕ} 0 1 = cc in absurd (omega arith)
      go (plan k) q y = rw (q, hand_p_lem k cs) refl

  -- another record hands on the scope that it has, and a key pair a part of it
  pub hand_part : (n : View) (g : Forest) {i j : View} → is_plan l ≡ false
      → i ≡ first_view l.kind n → j ≡ rest_view l.kind n → hand (scope_of n g) l cs ≡ (scope_of i g, scope_of j g)
  unfolding hand
  hand_part n g {i} {j} z h k =
      hand_q n g l cs (what l) refl z
      ∙ ap (λ (x : View). (scope_of x g, scope_of (rest_view l.kind n) g)) (sym h) ∙ ap (λ (x : View). (scope_of i g, scope_of x g)) (sym k)

-- ---- what is found in a scope

-- of two: the first has it
pub seek_left : (h : Name → Bool) (k : ℕ) (s t : Schema) (x : Sought) → x ≡ seek h k s → ((g : ℕ → Sought) → onward x g ≡ x)
    → x ≡ seek h k (s ++ t)
seek_left h k s t x e stop =
    sym (stop (λ j. seek h j t)) ∙ ap (λ (u : Sought). onward u (λ j. seek h j t)) e ∙ sym (seek-++ h k s t)

-- it has it not
pub seek_right : (h : Name → Bool) (k j : ℕ) (s t : Schema) {x : Sought} → Continue j ≡ seek h k s → x ≡ seek h j t → x ≡ seek h k (s ++ t)
seek_right h k j s t e g = g ∙ ap (λ (u : Sought). onward u (λ i. seek h i t)) e ∙ sym (seek-++ h k s t)

-- a type that is found by a name
pub type_named : (d : Schema) {t : ℕ} {x : FieldType} {q n : ℕ} → x ≡ Named q n → told d x ≡ t → type_found (seek (hits (Exact q n)) 0 d) ≡ t
type_named d {t} {x} {q} {n} e g = seek_name q n d ∙ sym (ap (told d) e) ∙ g

-- a scope has no more fields than there are records
seen_le : (v : View) (f : Forest) → length (seen (scope_of v f)) ≤ total (inputs f) + length (made [] f)
seen_le v f = go v
  where
    alone : (t : Schema) → length (t ++ []) ≡ length t
    alone t = ap length (append-nil t)

    go : (v : View) → length (seen (scope_of v f)) ≤ total (inputs f) + length (made [] f)
    go Nothing = omega arith
    go FirstInput = omega (arith, alone (input 0 (inputs f)), total_input 0 (inputs f))
    go SecondInput = omega (arith, alone (input 1 (inputs f)), total_input 1 (inputs f))
    go BothInputs = omega (arith, length-append (input 0 (inputs f)) (input 1 (inputs f)), total_two (inputs f))
    go Parts = omega (arith, alone (made [] f))
    go FirstInputAndParts = omega (arith, length-append (input 0 (inputs f)) (made [] f), total_input 0 (inputs f))

few_seen : {N : ℕ} (h : Name → Bool) (v : View) (x : Stretches N) → 32 * counted h (seen (scope_of v (forest x))) ≤ length x.image.now
few_seen h v x = omega (arith, counted_le h (seen (scope_of v (forest x))), enough (forest x) [], trees_size x, seen_le v (forest x))

-- how many it has
pub passed_seen : {N : ℕ} (h : Name → Bool) (v : View) (x : Stretches N) (n : Sought) → length x.image.now ≤ all_places
    → n ≡ seek h all_places (seen (scope_of v (forest x))) → passed_of n ≡ counted h (seen (scope_of v (forest x)))
passed_seen h v x n l e = seek_passed h (seen (scope_of v (forest x))) (omega (arith, few_seen h v x)) e
