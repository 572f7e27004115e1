-- Steps of the walks that test the name of each field: what the parts make, and what a plan has by its role.
-- Assumes nothing.
use mathlib.Core.Path.{◌≡◌, refl, sym, ap, ◌∙◌}
use mathlib.Core.Bool.{Bool, true, false, cond}
use mathlib.Core.List.{List, [], ◌++◌}
use Prim.Native.Nat.{ℕ, ◌≤◌, ◌<◌}
use native.Mathlib.Omega.{arith}
use lib.ListN.{length}
use borrow.Author.Tests.{le-leb, lt-leb}
use Rattle.check_fields.specs.declared.questions.Question.{Question}
use Rattle.check_fields.specs.declared.questions.Question.TheVariants.{Every}
use Rattle.std.specs.Prelude.{Option, None, Some, unwrap_or}
use Rattle.image.specs.Tree.{Label, Forest, none, node}
use Rattle.image.specs.Limits.{max_fields}
use Rattle.plan.specs.Lists.{◌&◌}
use Rattle.plan.proofs.Lists.{and_true, and_false}
use Rattle.plan.specs.Kinds as K
use Rattle.plan.specs.Kinds.{What, expr, plan, part, unknown, what, is_plan}
use Rattle.plan.specs.FieldSources.{makes, role, creates, renames, extends, gives_both, own}
use Rattle.image.specs.Subtrees.{forest}
use Rattle.check_names.specs.declared.schemas.Whole.{Whole}
use Rattle.plan.specs.declared.field_sources.Role.{Role}
use Rattle.plan.specs.declared.field_sources.Role.TheVariants.{Joins, Extends}
use Rattle.plan.specs.Syntax.{Name, nm}
use Rattle.check_fields.specs.Count.{counted, hits}
use Rattle.check_fields.specs.Fields.{Schema, name_of, input, made, schema_made_by, inputs, parts_over}
use Rattle.check_names.specs.Singles.{all_of, called, single, lone, whole_of, apart}
use Rattle.check_fields.proofs.Counting.{fields_here, behind, by_parts, by_alias, by_input, counted_all}
use Rattle.check_names.proofs.Singling.{all_of-++, all_of_renamed, all_of_cong}

-- ---- the parts

module _ (h : Name → Bool) where
  -- no part makes no field
  pub none_made : (c : Schema) (f : Forest) → f ≡ none → true ≡ all_of h (made c f)
  unfolding all_of made
  none_made c f e = rw e

  -- the field that one part makes
  one_made : (c : Schema) (l : Label) (cs : Forest) (rest : Schema) (w : What)
      → all_of h (schema_made_by w c l cs rest) ≡ cond (makes w) (h (name_of l) & all_of h rest) (all_of h rest)
  unfolding all_of
  one_made c l cs rest (part K.FieldPart) = refl
  one_made c l cs rest (part K.EntryPart) = refl
  one_made c l cs rest (part K.PairPart) = refl
  one_made c l cs rest (part K.KeyPart) = refl
  one_made c l cs rest (part K.AggPart) = refl
  one_made c l cs rest (part K.WinPart) = refl
  one_made c l cs rest (expr k) = refl
  one_made c l cs rest (plan k) = refl
  one_made c l cs rest unknown = refl

  module _ {f : Forest} {l : Label} {cs ns : Forest} (w : f ≡ node l cs ns) (c : Schema) where
    made_by : all_of h (made c f) ≡ cond (makes (what l)) (h (name_of l) & all_of h (made c ns)) (all_of h (made c ns))
    unfolding made
    made_by = ap (λ (g : Forest). all_of h (made c g)) w ∙ one_made c l cs (made c ns) (what l)

    -- a part that makes none
    pub made_other : makes (what l) ≡ false → all_of h (made c f) ≡ all_of h (made c ns)
    made_other z = made_by ∙ rw z refl

    -- a part whose field fails
    pub made_fails : makes (what l) ≡ true → h (name_of l) ≡ false → all_of h (made c f) ≡ false
    unfolding ◌&◌
    made_fails z y = made_by ∙ rw (z, y) refl

    -- a part whose field passes
    pub made_passes : makes (what l) ≡ true → h (name_of l) ≡ true → all_of h (made c f) ≡ all_of h (made c ns)
    unfolding ◌&◌
    made_passes z y = made_by ∙ rw (z, y) refl

-- a name as it is called
pub called_by : (h : Name → Bool) (to : Option ℕ) (q m : ℕ) {n : ℕ} → n ≡ unwrap_or to q → h (called to (nm q m)) ≡ h (nm n m)
called_by h None q m e = rw e refl
called_by h (Some i) q m e = rw e refl

-- ---- the plans

-- no plan has no field
pub none_held : (h : Name → Bool) (t : Schema) → t ≡ [] → true ≡ all_of h t
unfolding all_of
none_held h t e = rw e

-- the schema of a plan, by its role, as the code goes
module _ {f : Forest} {l : Label} {cs ns : Forest} (w : f ≡ node l cs ns) (z : is_plan l ≡ true) {r : Role} (R : r ≡ role (what l)) where
  -- the schemas of its inputs, and the schema that its parts stand over
  abbrev ins : List Schema
  ins = inputs cs

  abbrev pub over : Schema
  over = parts_over l.kind ins

  -- its fields are made by its parts
  pub held_parts : creates r ≡ true → made over cs ≡ input 0 (inputs f)
  held_parts c = sym (fields_here w z R ∙ by_parts l.p (made over cs) ins r c)

  -- an alias calls its fields by its own qualifier, unless another stands above
  pub held_renamed : (t : Schema) (asks : Name → Question) (to : Option ℕ) {n : ℕ} → n ≡ unwrap_or to l.p → renames r ≡ true
      → all_of (lone t asks (Some n)) (input 0 ins) ≡ all_of (lone t asks to) (input 0 (inputs f))
  held_renamed t asks to {n} N e =
      sym (ap (all_of (lone t asks to)) (fields_here w z R ∙ by_alias l.p (made over cs) ins r e)
      ∙ all_of_renamed (lone t asks to) l.p (input 0 ins)
      ∙ all_of_cong (λ x. lone t asks to (called (Some l.p) x)) (lone t asks (Some n)) (agree to N) (input 0 ins))
    where
      agree : (to : Option ℕ) → n ≡ unwrap_or to l.p → (x : Name) → lone t asks to (called (Some l.p) x) ≡ lone t asks (Some n) x
      agree None N (nm q m) = rw N refl
      agree (Some i) N (nm q m) = rw N refl

  module _ (h : Name → Bool) (c : creates r ≡ false) (d : renames r ≡ false) where
    held : all_of h (input 0 (inputs f)) ≡ all_of h (input (own r l.p) ins) & all_of h (behind l.p (made over cs) ins r)
    held =
        ap (all_of h) (fields_here w z R ∙ by_input l.p (made over cs) ins r c d)
        ∙ all_of-++ h (input (own r l.p) ins) (behind l.p (made over cs) ins r)

    -- where the input that is asked fails, the plan does
    pub held_fails : all_of h (input (own r l.p) ins) ≡ false → false ≡ all_of h (input 0 (inputs f))
    unfolding ◌&◌
    held_fails y = sym (held ∙ rw y refl)

    -- where it passes, what stands behind it tells: the other input of a join, the parts, or nothing
    module _ (y : all_of h (input (own r l.p) ins) ≡ true) where
      pub held_both : gives_both r l.p ≡ true → all_of h (input 1 ins) ≡ all_of h (input 0 (inputs f))
      unfolding ◌&◌
      held_both g = sym (held ∙ rw (y, g) refl)

      pub held_more : gives_both r l.p ≡ false → extends r ≡ true → all_of h (made over cs) ≡ all_of h (input 0 (inputs f))
      unfolding ◌&◌
      held_more g e = sym (held ∙ rw (y, g, e) refl)

      pub held_first : gives_both r l.p ≡ false → extends r ≡ false → true ≡ all_of h (input 0 (inputs f))
      unfolding ◌&◌ all_of
      held_first g e = sym (held ∙ rw (y, g, e) refl)

-- ---- a whole schema

module _ (h : Name → Bool) (s t : Schema) where
  -- of two schemas, one after the other, the first fails
  pub first_fails : all_of h s ≡ false → false ≡ all_of h (s ++ t)
  unfolding ◌&◌
  first_fails e = sym (all_of-++ h s t ∙ rw e refl)

  -- the first passes
  pub first_passes : all_of h s ≡ true → all_of h t ≡ all_of h (s ++ t)
  unfolding ◌&◌
  first_passes e = sym (all_of-++ h s t ∙ rw e refl)

-- the schemas of two parts
module _ {N : ℕ} (w : Whole N) where
  pub whole_joins : w.role ≡ Joins → input 0 (inputs (forest w.trees)) ++ input 1 (inputs (forest w.trees)) ≡ whole_of w
  whole_joins e = rw e refl

  pub whole_extends : w.role ≡ Extends → input 0 (inputs (forest w.trees)) ++ made [] (forest w.trees) ≡ whole_of w
  whole_extends e = rw e refl

-- ---- the number of fields

module _ (asks : Name → Question) (s : Schema) {k : ℕ} (e : k ≡ counted (hits Every) s) where
  -- too many fields
  pub too_many : max_fields < k → false ≡ apart asks s
  too_many l = sym (rw (lt-leb (length s) max_fields (omega (arith, counted_all s))) (and_false (all_of (single s asks) s)))

  -- not too many: what is left is that they are told apart
  pub not_many : k ≤ max_fields → all_of (single s asks) s ≡ apart asks s
  not_many l = sym (rw (le-leb (length s) max_fields (omega (arith, counted_all s))) (and_true (all_of (single s asks) s)))
