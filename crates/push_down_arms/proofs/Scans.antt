-- The filters of a scan: read off its records, and written in the place of its own.
--     Filters, filters_start, ..   a loop over the scan's children, which lists those that are no fields
--     Copied, copied_start, ..     a loop that writes the items of a list
--     scan_wrote                   the scan's own record and its fields are written, and then other filters
-- Assumes nothing.
use mathlib.Core.Path.{◌≡◌, refl, sym, ap, subst, ◌∙◌}
use mathlib.Core.List.{List, [], ◌∷◌, ◌++◌, append_assoc, append-nil}
use Prim.Native.Nat.{ℕ, suc, ◌+◌, ◌-◌, ◌*◌, ◌≤◌, ◌<◌}
use native.Mathlib.Omega.{arith}
use lib.ListN.{length, take, drop, get_or, length-drop}
use lib.Seq.{take_at}
use Rattle.image.specs.Limits.{work_bytes, max_below}
use Rattle.image.specs.Room.{Wrote}
use Rattle.image.specs.Tree.{Label, Forest, none, node, Deep, At}
use Rattle.image.specs.Records.{Rec, recs, recs_any}
use Rattle.plan.specs.Integers.{FitsE, Every}
use Rattle.plan.specs.Measure.{sizes}
use Rattle.plan.specs.Syntax.{Expr, Field, scan}
use Rattle.plan.specs.Trees.{label_e, kids_e, label_p, kids_p, expr_tree, plan_tree, each, field_label, nothing_below}
use Rattle.conjuncts.specs.Items.{Conjuncts, FALSE, listed, Lists}
use Rattle.conjuncts.specs.Standing.{Standing}
use Rattle.conjuncts.proofs.Listed.{lists_none, next, at_end}
use Rattle.push_down_base.specs.Around.{WroteAll}
use Rattle.push_down_base.specs.Arms.{Placed}
use Rattle.push_down_arms.specs.Scans.{Adds}
use Rattle.push_down_base.proofs.Runs.{run_recs, run_count}
use Rattle.push_down_arms.proofs.Shaping.{standing_item}
use Rattle.push_down_base.proofs.WrittenRuns.{wrote_then, wrote_tree, tree_wrote}

-- ---- the scan's own filters

-- so much is listed, and what is left of the children has the rest
pub record Filters (s : List ℕ) (r : Conjuncts) (all : List Expr) (f : Forest) : Type 0 where
  pub fields : List Field
  pub rest : List Expr
  pub is : f ≡ each field_label nothing_below fields (each label_e kids_e rest none)
  pub fits : Every FitsE rest
  pub done : List Expr
  pub lists : Lists s r done
  pub completes : done ++ rest ≡ all

pub filters_start : {s : List ℕ} {x t : ℕ} {fs : List Field} {es : List Expr} {r : Conjuncts} → Placed s x (scan t fs es)
    → (listed r ≡ []) × (r.len ≡ 0) → Filters s r es (kids_p (scan t fs es))
unfolding kids_p
filters_start {fs = fs} {es} h k = record {
  fields = fs;
  rest = es;
  is = refl;
  fits = h.standing.fits;
  done = [];
  lists = lists_none k;
  completes = refl;
}

-- what `add_filter` does with a child
abbrev pub Added : List ℕ → Label → ℕ → Conjuncts → Conjuncts → Type 0
Added s l n c r = (ds : List Expr) → Lists s c ds → Adds s l n r ds

pub filters_next : {s : List ℕ} {y : ℕ} {r r' : Conjuncts} {es : List Expr} (l : Label) (cs ns : Forest) → Filters s r es (node l cs ns)
    → length s ≤ work_bytes → 0 < y → At (record { label = l; below = cs }) (drop (32 * y) s) y → Deep cs max_below
    → Added s l y r r' → Filters s r' es ns
unfolding each
filters_next {s} {y} {r} {r'} {es} l cs ns h short past here deep add = go h.fields h.rest h.is h.fits h.completes
  where
    go : (fields : List Field) (rest : List Expr) → node l cs ns ≡ each field_label nothing_below fields (each label_e kids_e rest none)
        → Every FitsE rest → h.done ++ rest ≡ es → Filters s r' es ns
    go [] [] i f e = let z : ◌≡◌ {A = ℕ} 0 1 = cc in absurd (omega arith)
    go [] (x₁ ∷ rest) i f e =
        let il : l ≡ label_e x₁ = cc in
        let ic : cs ≡ kids_e x₁ = cc in
        let t : At (expr_tree x₁) (drop (32 * y) s) y = rw (il, ic) at here in
        let st : Standing s y x₁ = record {
          within = omega (arith, t.head.room, length-drop (32 * y) s);
          here = t;
          deep = rw ic at deep;
          fits = f.0;
          small = omega (arith, t.head.room, length-drop (32 * y) s);
        } in
        record {
          fields = [];
          rest = rest;
          is = cc;
          fits = f.1;
          done = h.done ++ (x₁ ∷ []);
          lists = (add h.done h.lists).filter x₁ il (standing_item st (λ z. omega arith));
          completes = append_assoc h.done (x₁ ∷ []) rest ∙ e;
        }
    go (f₁ ∷ fields) rest i f e =
        let il : l ≡ field_label f₁ = cc in
        record {
          fields = fields;
          rest = rest;
          is = cc;
          fits = f;
          done = h.done;
          lists = (add h.done h.lists).field (ap (λ (k : Label). k.kind) il);
          completes = e;
        }

pub filters_end : {s : List ℕ} {r : Conjuncts} {es : List Expr} → Filters s r es none → Lists s r es
unfolding each
filters_end {s} {r} {es} h = go h.fields h.rest h.is h.completes
  where
    go : (fields : List Field) (rest : List Expr) → none ≡ each field_label nothing_below fields (each label_e kids_e rest none) → h.done ++ rest ≡ es
        → Lists s r es
    go [] [] i e = subst (λ l. Lists s r l) (sym (append-nil h.done) ∙ e) h.lists
    go [] (x ∷ rest) i e = let z : ◌≡◌ {A = ℕ} 0 1 = cc in absurd (omega arith)
    go (f ∷ fields) rest i e = let z : ◌≡◌ {A = ℕ} 0 1 = cc in absurd (omega arith)

-- ---- items written one after another

-- the records of expressions
abbrev pub run : ℕ → List Expr → List Rec
run level es = recs_any level (each label_e kids_e es none)

-- so much is written, and the rest completes it
pub record Copied (out₀ : List ℕ) (at₀ level : ℕ) (es : List Expr) (out : List ℕ) (to i : ℕ) : Type 0 where
  pub done : List Rec
  pub wrote : WroteAll out₀ out at₀ to done
  pub completes : done ++ run level (drop i es) ≡ run level es

module _ {out₀ : List ℕ} {at₀ level : ℕ} {es : List Expr} where
  pub copied_start : {out : List ℕ} {to : ℕ} → WroteAll out₀ out at₀ to [] → Copied out₀ at₀ level es out to 0
  copied_start w = record { done = []; wrote = w; completes = refl }

  pub copied_next : {out out' : List ℕ} {to to' : ℕ} (i : ℕ) → length out₀ ≡ work_bytes → i < length es → Copied out₀ at₀ level es out to i
      → Wrote out out' to level to' (expr_tree (get_or es i FALSE)) → Copied out₀ at₀ level es out' to' (i + 1)
  unfolding each
  copied_next i long lt h w = record {
    done = h.done ++ recs level (expr_tree (get_or es i FALSE));
    wrote = wrote_then long h.wrote (wrote_tree w);
    completes = append_assoc h.done (recs level (expr_tree (get_or es i FALSE))) (run level (drop (i + 1) es))
        ∙ ap (λ xs. h.done ++ run level xs) (sym (next es i lt)) ∙ h.completes;
  }

  pub copied_end : {out : List ℕ} {to : ℕ} (i : ℕ) → length es ≤ i → Copied out₀ at₀ level es out to i → WroteAll out₀ out at₀ to (run level es)
  unfolding each
  copied_end {out} {to} i le h =
      let e : h.done ≡ run level es = sym (append-nil h.done) ∙ (rw (at_end es i le) at h.completes) in
      subst (λ xs. WroteAll out₀ out at₀ to xs) e h.wrote

-- ---- the scan

abbrev own : ℕ → ℕ → List Field → List Rec
own level t fs = (label_p (scan t fs []), level) ∷ recs_any (level + 1) (each field_label nothing_below fs none)

own_is : (level t : ℕ) (fs : List Field) (es : List Expr) → recs level (plan_tree (scan t fs es)) ≡ own level t fs ++ run (level + 1) es
unfolding label_p kids_p
own_is level t fs es = ap (λ l. (label_p (scan t fs []), level) ∷ l) (run_recs field_label nothing_below fs (level + 1) (each label_e kids_e es none))

own_count : (level t : ℕ) (fs : List Field) → length (own level t fs) ≡ suc (length fs)
unfolding sizes
own_count level t fs = ap suc (run_count field_label nothing_below fs (level + 1) ∙ go fs)
  where
    go : (fs : List Field) → sizes nothing_below fs ≡ length fs
    go [] = refl
    go (f ∷ fs) = omega (arith, go fs)

pub scan_wrote : {out out₁ out₂ : List ℕ} {at level r₁ r₂ : ℕ} (x k t : ℕ) (fs : List Field) (es ys : List Expr) → length out ≡ work_bytes
    → k ≡ length fs → WroteAll out out₁ at r₁ (take (x + 1 + k - x) (recs level (plan_tree (scan t fs es))))
    → WroteAll out₁ out₂ r₁ r₂ (run (level + 1) ys) → Wrote out out₂ at level r₂ (plan_tree (scan t fs ys))
scan_wrote {out} {out₁} {at = at} {level} {r₁} x k t fs es ys long c w v =
    let n : x + 1 + k - x ≡ suc (length fs) = omega arith in
    let i : take (x + 1 + k - x) (recs level (plan_tree (scan t fs es))) ≡ own level t fs =
    ap (λ j. take j (recs level (plan_tree (scan t fs es)))) n
    ∙ ap (take (suc (length fs))) (own_is level t fs es)
    ∙ take_at (own level t fs) (run (level + 1) es) (suc (length fs)) (own_count level t fs) in
    tree_wrote (own_is level t fs ys) (wrote_then long (subst (λ l. WroteAll out out₁ at r₁ l) i w) v)

-- ---- a list that is not empty

pub record First (es : List Expr) : Type 0 where
  pub first : Expr
  pub others : List Expr
  pub is : es ≡ first ∷ others

pub some_first : (es : List Expr) → (length es ≡ 0 → ⊥) → First es
some_first [] nz = absurd (nz refl)
some_first (e ∷ es) nz = record { first = e; others = es; is = refl }
