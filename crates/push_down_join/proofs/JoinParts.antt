-- The parts of a join in an image: its filter, its keys.
--     Last, ..        the last child of a join is its filter, if it has one, and else no expression
--     PairsLeft, ..   a loop that writes the pairs of keys
--     conditions-..   a list written as a join's filter
-- Assumes nothing.
use mathlib.Core.Path.{◌≡◌, refl, sym, ap, subst, ◌∙◌}
use mathlib.Core.Bool.{Bool, true, false}
use mathlib.Core.List.{List, [], ◌∷◌, ◌++◌, append_assoc, append-nil}
use mathlib.Core.Option as O
use mathlib.Core.Option.{Option, some}
use Prim.Native.Nat.{ℕ, suc, ◌+◌, ◌*◌, ◌≤◌, ◌<◌}
use native.Mathlib.Omega.{arith}
use native.Mathlib.Nat.{le_trans, le-max_left}
use lib.Dec.{eqb, ltb}
use borrow.Author.Tests.{le-ltb, lt-ltb, ne_eqb}
use lib.ListN.{length, drop, length-drop}
use lib.Seq.{length-sets}
use Rattle.std.specs.Prelude as P
use Rattle.std.specs.Bool.{then_some}
use Rattle.image.specs.Limits.{work_bytes, no_room, max_below}
use Rattle.image.specs.Room.{Wrote}
use Rattle.image.specs.Tree.{Label, Forest, none, node, Tree, size}
use Rattle.image.specs.Subtrees.{Subtree, tree_of}
use Rattle.image.specs.Word.{word}
use Rattle.image.specs.Records.{Rec, recs, recs_any}
use Rattle.image.proofs.Room.{cap_le}
use Rattle.plan.specs.Integers.{Fits?}
use Rattle.plan.specs.Lists.{when}
use Rattle.plan.specs.Schema.{has, schema}
use Rattle.plan.specs.Syntax.{Name, Expr, col, num, bool, nul, bin, neg, test, between, inlist, fn, Pair, Kind, Plan, scan, filter, project, join}
use Rattle.plan.specs.Syntax.{alias}
use Rattle.plan.specs.Syntax.{union, distinct, sort, repartition, limit, aggregate, window}
use Rattle.plan.specs.Trees.{label_e, expr_tree, label_p, kids_p, each, pair_label, pair_kids, filter_kids}
use Rattle.plan.proofs.Lists.{and_l, and_r}
use Rattle.acceptance.specs.NamesRule.{rule}
use Rattle.rewrite.specs.Limits.{list_p}
use Rattle.rewrite.specs.Utils.{split_conjunction, split_conjunction?, conjoin, conjunction}
use Rattle.rewrite.proofs.Project.{split_cols}
use Rattle.conjuncts.specs.Items.{Conjuncts, Lists}
use Rattle.conjuncts.specs.Standing.{IsExpr, Standing, StandingP, There}
use Rattle.conjuncts.proofs.Listed.{known_of}
use Rattle.conjuncts.proofs.Standing.{plan_standing, tree_standing}
use Rattle.push_down_base.specs.Around.{WroteAll}
use Rattle.push_down_base.specs.Arms.{Placed}
use Rattle.push_down_base.specs.Inputs as L
use Rattle.push_down_base.specs.Inputs.{last_of}
use Rattle.push_down_join.specs.JoinPlans.{pair_recs, FilterOf, has_none, has_one}
use Rattle.push_down_base.specs.Parting.{Reads}
use Rattle.push_down_base.proofs.Steps.{On, rest_trees, children, expr_first}
use Rattle.push_down_base.proofs.WrittenRuns.{wrote_then, wrote_tree}

-- ---- the filter

plan_kind : (p : Plan) → (32 ≤ (label_p p).kind) × ((label_p p).kind < 48)
unfolding label_p
plan_kind (scan t fs es) = omega arith
plan_kind (filter e p) = omega arith
plan_kind (project es p) = omega arith
plan_kind (join k l r on f) = omega arith
plan_kind (alias q p) = omega arith
plan_kind (union ps) = omega arith
plan_kind (distinct p) = omega arith
plan_kind (sort f ks p) = omega arith
plan_kind (repartition p) = omega arith
plan_kind (limit n k p) = omega arith
plan_kind (aggregate gs ags p) = omega arith
plan_kind (window ws p) = omega arith

expr_kind : (e : Expr) → (label_e e).kind < 32
unfolding label_e
expr_kind (col x) = omega arith
expr_kind (num z) = omega arith
expr_kind (bool b) = omega arith
expr_kind (nul t) = omega arith
expr_kind (bin o a b) = omega arith
expr_kind (neg a) = omega arith
expr_kind (test t a) = omega arith
expr_kind (between n a l u) = omega arith
expr_kind (inlist n a xs) = omega arith
expr_kind (fn p q r xs) = omega arith

-- at record n stands the filter, or what is no expression
pub data Last (s : List ℕ) (n : ℕ) : Option Expr → Type 0 where
  no_filter : 32 * n + 32 ≤ length s → 32 ≤ word (drop (32 * n) s) 0 → Last s n O.none
  a_filter : {e : Expr} → Standing s n e → 0 < n → word (drop (32 * n) s) 0 < 32 → Last s n (some e)

module _ {s : List ℕ} (short : length s ≤ work_bytes) where
  -- past the pairs of keys, of which the last so far is at record b
  past_keys : (on : List Pair) (f : Option Expr) {m : ℕ} (b : ℕ) → On s m max_below (each pair_label pair_kids on (filter_kids f)) → Fits? f → 0 < m
      → 32 * b + 32 ≤ length s → 32 ≤ word (drop (32 * b) s) 0 → Last s (last_of b m (each pair_label pair_kids on (filter_kids f))) f
  unfolding each
  past_keys [] O.none b h fits pos room kind = no_filter room kind
  past_keys [] (some e) b h fits pos room kind =
      let t = expr_first short (omega arith) h fits in
      a_filter t pos (omega (arith, ap (λ (l : Label). l.kind) t.here.head.label, expr_kind e))
  past_keys (p ∷ on) f {m} b h fits pos room kind =
      let i : m + suc (size (pair_kids p)) ≡ m + 1 + size (pair_kids p) = omega arith in
      subst (λ n. Last s (last_of m n (each pair_label pair_kids on (filter_kids f))) f) i
      (past_keys on f m (rest_trees h) fits (omega arith) (omega (arith, h.stands.head.room, length-drop (32 * m) s))
      (omega (arith, ap (λ (l : Label). l.kind) h.stands.head.label)))

  pub last_is : {x : ℕ} (k : Kind) (l r : Plan) (on : List Pair) (f : Option Expr) → StandingP s x (join k l r on f)
      → Last s (last_of 0 (x + 1) (kids_p (join k l r on f))) f
  unfolding kids_p
  last_is {x} k l r on f h =
      let right = rest_trees (children short h) in
      let i : x + 1 + suc (size (kids_p l)) ≡ x + 1 + 1 + size (kids_p l) = omega arith in
      let j : x + 1 + suc (size (kids_p l)) + suc (size (kids_p r)) ≡ x + 1 + 1 + size (kids_p l) + 1 + size (kids_p r) = omega arith in
      subst (λ n. Last s (last_of (x + 1 + 1 + size (kids_p l)) n (each pair_label pair_kids on (filter_kids f))) f) j
      (subst (λ n. Last s (last_of n (x + 1 + suc (size (kids_p l)) + suc (size (kids_p r))) (each pair_label pair_kids on (filter_kids f))) f) i
      (past_keys on f (x + 1 + suc (size (kids_p l))) (rest_trees right) h.fits.3 (omega arith)
      (omega (arith, right.stands.head.room, length-drop (32 * (x + 1 + suc (size (kids_p l)))) s))
      (omega (arith, ap (λ (l : Label). l.kind) right.stands.head.label, plan_kind r))))

-- a join has children
pub join_some : (t : Subtree) {k : Kind} {l r : Plan} {on : List Pair} {f : Option Expr} → Placed t.image.now t.number (join k l r on f)
    → (tree_of t).below ≡ none → ⊥
unfolding kids_p
join_some t h e = absurd (omega (arith, ap size (sym e ∙ ap (λ (v : Tree). v.below) (plan_standing t refl refl h.standing))))

-- the last child of a join, as `last_child` finds it
module _ {t u : Subtree} {k : Kind} {l r : Plan} {on : List Pair} {f : Option Expr} (w : L.Last t u)
    (h : Placed t.image.now t.number (join k l r on f)) where
  pub last_filter : {n : ℕ} → n ≡ (tree_of u).label.kind → FilterOf t.image.now (then_some (ltb n 32) u) f
  unfolding kids_p
  last_filter {n} e = go f (subst (λ i. Last t.image.now i f) (sym number) (last_is h.short k l r on f h.standing))
    where
      number : u.number ≡ last_of 0 (t.number + 1) (kids_p (join k l r on f))
      number = w.number ∙ ap (λ (v : Tree). last_of t.number (t.number + 1) v.below) (plan_standing t refl refl h.standing)

      kind : n ≡ word (drop (32 * u.number) t.image.now) 0
      kind =
          e ∙ sym (ap (λ z. word (drop (32 * u.number) z) 0) (sym w.image) ∙ ap (λ (a : Label). a.kind) u.stood.at.head.label)

      go : (f : Option Expr) → Last t.image.now u.number f → FilterOf t.image.now (then_some (ltb n 32) u) f
      go O.none (no_filter room k) = rw (kind, le-ltb (word (drop (32 * u.number) t.image.now) 0) 32 k) has_none
      go (some e) (a_filter s pos k) = rw (kind, lt-ltb (word (drop (32 * u.number) t.image.now) 0) 32 k) (has_one w.image s pos)

pub own_there : {s : List ℕ} {u : Subtree} {f : Option Expr} → FilterOf s (P.Some u) f → length s ≤ work_bytes
    → There u.image.now u.number × (0 < u.number) × (length u.image.now ≤ work_bytes)
own_there {u = u} (has_one {e = e} here h pos) short =
    (record { expr = e; standing = subst (λ z. Standing z u.number e) (sym here) h }, pos, rw here short)

pub own_expr : {s : List ℕ} {u : Subtree} {f : Option Expr} → FilterOf s (P.Some u) f → IsExpr (tree_of u)
own_expr {u = u} (has_one {e = e} here h pos) = record { expr = e; is = tree_standing u here refl h }

-- what is split at the filter
pub own_reads : {s : List ℕ} {x : ℕ} {u : Subtree} {k : Kind} {l r : Plan} {on : List Pair} {f : Option Expr} {z : Conjuncts}
    → Placed s x (join k l r on f)
    → FilterOf s (P.Some u) f → ((e : Expr) → Standing u.image.now u.number e → Lists u.image.now z (split_conjunction e))
    → Reads s (schema l ++ schema r) z (split_conjunction? f)
unfolding split_conjunction? rule list_p
own_reads {s} {u = u} {l = l} {r} {z = z} p (has_one {e = e} here h pos) g =
    let listed : Lists s z (split_conjunction e) =
    subst (λ b. Lists b z (split_conjunction e)) here (g e (subst (λ b. Standing b u.number e) (sym here) h)) in
    record {
      lists = listed;
      over = split_cols (has (schema l ++ schema r)) e (and_l _ _ (and_r _ _ (and_r _ _ p.rules)));
      most = (known_of listed (le_trans (le-max_left (length (split_conjunction e)) _) p.lists)).most;
    }

-- where there is none
pub own_none : {s : List ℕ} {f : Option Expr} {ns : List Name} {z : Conjuncts} → FilterOf s P.None f → Reads s ns z []
    → Reads s ns z (split_conjunction? f)
unfolding split_conjunction?
own_none has_none h = h

-- ---- the keys

pub wrote_when : {out out₁ : List ℕ} {at r : ℕ} {xs : List Rec} (b : Bool) → b ≡ true → WroteAll out out₁ at r xs → WroteAll out out₁ at r (when b xs)
unfolding when
wrote_when b e h = rw e h

pub wrote_unless : {out out' : List ℕ} {at r : ℕ} (b : Bool) (xs : List Rec) → b ≡ false → WroteAll out out' at r [] → WroteAll out out' at r (when b xs)
unfolding when
wrote_unless b xs e h = rw e h

-- the pairs of the forest `all` were to be written from record at₀ on; those of `rest` are left
pub record PairsLeft (d : ℕ) (out₀ : List ℕ) (at₀ : ℕ) (all : Forest) (out : List ℕ) (to : ℕ) (rest : Forest) : Type 0 where
  pub done : List Rec
  pub wrote : WroteAll out₀ out at₀ to done
  pub is : done ++ pair_recs d rest ≡ pair_recs d all
  pub long₀ : length out₀ ≡ work_bytes
  pub long : length out ≡ work_bytes
  pub small : to ≤ no_room

pub pairs_all : {out₀ out : List ℕ} {at₀ to : ℕ} (d : ℕ) (all : Forest) → length out₀ ≡ work_bytes → WroteAll out₀ out at₀ to []
    → PairsLeft d out₀ at₀ all out to all
pairs_all {at₀ = at₀} d all long w =
    record { done = []; wrote = w; is = refl; long₀ = long; long = rw (w.bytes, length-sets) long; small = rw w.next (cap_le (at₀ + 0)) }

pub pairs_next : {d : ℕ} {out₀ : List ℕ} {at₀ : ℕ} {all : Forest} {out : List ℕ} {to : ℕ} (t : Tree) (after : Forest) {out' : List ℕ} {to' : ℕ}
    → PairsLeft d out₀ at₀ all out to (node t.label t.below after) → WroteAll out out' to to' (when (eqb t.label.kind 50) (recs d t))
    → PairsLeft d out₀ at₀ all out' to' after
unfolding pair_recs
pairs_next {d} {to = to} t after h w = record {
  done = h.done ++ when (eqb t.label.kind 50) (recs d t);
  wrote = wrote_then h.long₀ h.wrote w;
  is = append_assoc h.done (when (eqb t.label.kind 50) (recs d t)) (pair_recs d after) ∙ h.is;
  long₀ = h.long₀;
  long = rw (w.bytes, length-sets) h.long;
  small = rw w.next (cap_le (to + length (when (eqb t.label.kind 50) (recs d t))));
}

pub pairs_end : {d : ℕ} {out₀ : List ℕ} {at₀ : ℕ} {all : Forest} {out : List ℕ} {to : ℕ} → PairsLeft d out₀ at₀ all out to none
    → WroteAll out₀ out at₀ to (pair_recs d all)
unfolding pair_recs
pairs_end {out₀ = out₀} {at₀} {out = out} {to} h = subst (λ l. WroteAll out₀ out at₀ to l) (sym (append-nil h.done) ∙ h.is) h.wrote

-- of a join they are its pairs
no_plan : (p : Plan) → eqb (label_p p).kind 50 ≡ false
no_plan p = ne_eqb (label_p p).kind 50 (λ z. omega (arith, plan_kind p))

no_expr : (e : Expr) → eqb (label_e e).kind 50 ≡ false
no_expr e = ne_eqb (label_e e).kind 50 (λ z. omega (arith, expr_kind e))

none_when : (b : Bool) (xs ys : List Rec) → b ≡ false → when b xs ++ ys ≡ ys
unfolding when
none_when b xs ys e = rw e

pair_run : (d : ℕ) (on : List Pair) (f : Option Expr) → pair_recs d (each pair_label pair_kids on (filter_kids f)) ≡ recs_any d
    (each pair_label pair_kids on none)
unfolding each pair_recs when
pair_run d [] O.none = refl
pair_run d [] (some e) = none_when (eqb (label_e e).kind 50) (recs d (expr_tree e)) [] (no_expr e)
pair_run d (p ∷ on) f = ap (λ l. recs d (record { label = pair_label p; below = pair_kids p }) ++ l) (pair_run d on f)

pub pairs_join : (d : ℕ) (k : Kind) (l r : Plan) (on : List Pair) (f : Option Expr)
    → pair_recs d (kids_p (join k l r on f)) ≡ recs_any d (each pair_label pair_kids on none)
unfolding kids_p pair_recs
pairs_join d k l r on f = none_when _ _ _ (no_plan l) ∙ none_when _ _ _ (no_plan r) ∙ pair_run d on f

-- ---- a join's new filter

pub conditions_none : {out out' : List ℕ} {at r : ℕ} (level : ℕ) (es : List Expr) → length es ≡ 0 → WroteAll out out' at r []
    → WroteAll out out' at r (recs_any level (filter_kids (conjunction es)))
unfolding conjunction
conditions_none level [] z w = w
conditions_none level (e ∷ es) z w = absurd (omega arith)

pub conditions_some : {out out₁ : List ℕ} {at level r : ℕ} (es : List Expr) → (length es ≡ 0 → ⊥)
    → ((e : Expr) (rest : List Expr) → es ≡ e ∷ rest → Wrote out out₁ at level r (expr_tree (conjoin e rest)))
    → WroteAll out out₁ at r (recs_any level (filter_kids (conjunction es)))
unfolding conjunction
conditions_some [] nz w = absurd (nz refl)
conditions_some {out} {out₁} {at} {level} {r} (e ∷ es) nz w =
    subst (λ l. WroteAll out out₁ at r l) (sym (append-nil (recs level (expr_tree (conjoin e es))))) (wrote_tree (w e es refl))
