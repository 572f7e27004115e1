-- The rule of names of one record, as the code asks it: a reference's by its scope, a plan's by its role and its children.
-- Assumes nothing.
use mathlib.Core.Path.{◌≡◌, refl, sym, ap, subst, ◌∙◌}
use mathlib.Core.Bool.{Bool, true, false, cond, not, ◌&&◌}
use mathlib.Core.List.{List, [], ◌++◌, append-nil}
use Prim.Native.Nat.{ℕ, suc, ◌-◌, ◌<◌}
use native.Mathlib.Omega.{arith}
use lib.Dec.{eqb, ltb}
use borrow.Author.Tests.{ltb-true}
use Rattle.check_fields.specs.declared.questions.Question.TheVariants.{Exact}
use Rattle.image.specs.Tree.{Label, Forest, none, node}
use Rattle.plan.specs.Lists.{◌&◌}
use Rattle.plan.specs.Kinds as K
use Rattle.plan.specs.Kinds.{What, expr, plan, part, unknown, what, what_of, plan_w, is_plan}
use Rattle.plan.specs.FieldSources.{role, joins, gives_both, own}
use Rattle.plan.specs.declared.field_sources.Role.{Role}
use Rattle.plan.specs.declared.field_sources.Role.TheVariants.{NoPlan, Creates, Joins, Renames, Extends, Passes}
use Rattle.plan.proofs.Bools.{no_yes, told, untold}
use Rattle.plan.proofs.Lists.{and_intro}
use Rattle.plan.proofs.Rebuilt.{kind_e, kind_p}
use Rattle.acceptance.specs.Names.{holders, sound}
use Rattle.check_fields.specs.Count.{counted, hits}
use Rattle.check_fields.specs.Fields.{Schema, name_of, input, made, parts_over, fields_by, inputs, inputs_by, names_in, join_fields}
use Rattle.check_fields.specs.Rules.{Scope, seen, sound_by, name_ok, name_by}
use Rattle.check_names.specs.Singles.{known_inputs}
use Rattle.check_fields.proofs.Counting.{by_input, skip_part, plan_first}
use Rattle.check_fields.proofs.Scoping.{counted_name}
use Rattle.check_names.proofs.Singling.{known_sound}

module _ (r : Role) (p : ℕ) (parts : Schema) (ins : List Schema) where
  -- what the code tests before it takes a plan as known: no semi or anti join; its rule is that its schema is sound
  own_rule : (joins r && not (gives_both r p)) ≡ false → sound (names_in (fields_by r p parts ins)) ≡ true → sound_by r p parts ins ≡ true
  unfolding join_fields
  own_rule e g = and_intro g (go r e g)
    where
      go : (r : Role) → (joins r && not (gives_both r p)) ≡ false → sound (names_in (fields_by r p parts ins)) ≡ true
          → cond (joins r) (sound (names_in (input 0 ins ++ input 1 ins))) true ≡ true
      go NoPlan e g = refl
      go Creates e g = refl
      go Joins e g = let t : gives_both Joins p ≡ true = told e in rw t at g
      go Renames e g = refl
      go Extends e g = refl
      go Passes e g = refl

  -- a semi or anti join
  one_side : (joins r && not (gives_both r p)) ≡ true → sound (names_in (fields_by r p parts ins)) ≡ true
      → (r ≡ Joins) × (sound (names_in (input (own Joins p) ins)) ≡ true)
  one_side e g = go r e g
    where
      go : (r : Role) → (joins r && not (gives_both r p)) ≡ true → sound (names_in (fields_by r p parts ins)) ≡ true
          → (r ≡ Joins) × (sound (names_in (input (own Joins p) ins)) ≡ true)
      go NoPlan e g = no_yes e
      go Creates e g = no_yes e
      go Joins e g =
          let t : gives_both Joins p ≡ false = untold e in
          (refl, subst (λ (s : Schema). sound (names_in s) ≡ true) (by_input p parts ins Joins refl refl ∙ rw t (append-nil _)) g)
      go Renames e g = no_yes e
      go Extends e g = no_yes e
      go Passes e g = no_yes e

module _ (c : Scope) (l : Label) (cs : Forest) where
  -- a reference
  rule_column : l.kind ≡ K.number_e K.Column → eqb (holders (names_in (seen c)) (name_of l)) 1 ≡ name_ok c l cs
  unfolding name_ok what_of K.among
  rule_column e = ap (λ (n : ℕ). name_by (what_of n) c l cs) (sym e)

  -- by the fields that are counted in its scope
  pub rule_held : {k : ℕ} → l.kind ≡ K.number_e K.Column → k ≡ counted (hits (Exact l.p l.q)) (seen c) → eqb k 1 ≡ name_ok c l cs
  rule_held {k} one e = ap (λ (n : ℕ). eqb n 1) (e ∙ counted_name l.p l.q (seen c)) ∙ rule_column one

  -- a record that is no plan and no reference
  pub rule_other : plan_w (what l) ≡ false → (l.kind ≡ K.number_e K.Column → ⊥) → true ≡ name_ok c l cs
  unfolding name_ok
  rule_other e z = go (what l) e (λ q. z (kind_e l K.Column q))
    where
      go : (w : What) → plan_w w ≡ false → (w ≡ expr K.Column → ⊥) → true ≡ name_by w c l cs
      go (part k) e z = refl
      go unknown e z = refl
      go (plan k) e z = no_yes (sym e)
      go (expr K.Column) e z = absurd (z refl)
      go (expr K.Integer) e z = refl
      go (expr K.Boolean) e z = refl
      go (expr K.Null) e z = refl
      go (expr K.Binary) e z = refl
      go (expr K.Not) e z = refl
      go (expr K.Test) e z = refl
      go (expr K.Between) e z = refl
      go (expr K.InList) e z = refl
      go (expr K.Function) e z = refl

  -- a plan
  module _ {r : Role} (R : r ≡ role (what l)) (z : plan_w (what l) ≡ true) where
    -- the schema that its parts stand over
    abbrev d : Schema
    d = parts_over l.kind (inputs cs)

    rule_is : name_ok c l cs ≡ sound_by r l.p (made d cs) (inputs cs)
    unfolding name_ok
    rule_is = rw R (go (what l) refl z)
      where
        go : (w : What) → what l ≡ w → plan_w w ≡ true → name_by w c l cs ≡ sound_by (role w) l.p (made d cs) (inputs cs)
        go (plan k) q e = rw (kind_p l k q)
        go (expr k) q e = no_yes e
        go (part k) q e = no_yes e
        go unknown q e = no_yes e

    -- its schema
    fields_is : input 0 (inputs (node l cs none)) ≡ fields_by r l.p (made d cs) (inputs cs)
    unfolding input inputs
    fields_is = rw R (go (what l) refl z)
      where
        go : (w : What) → what l ≡ w → plan_w w ≡ true
            → input 0 (inputs_by w l cs (inputs cs) []) ≡ fields_by (role w) l.p (made d cs) (inputs cs)
        go (plan k) q e = rw (kind_p l k q)
        go (expr k) q e = no_yes e
        go (part k) q e = no_yes e
        go unknown q e = no_yes e

    pub rule_plan : {b : Bool} → b ≡ sound_by r l.p (made d cs) (inputs cs) → b ≡ name_ok c l cs
    rule_plan e = e ∙ sym rule_is

    module _ (g : sound (names_in (input 0 (inputs (node l cs none)))) ≡ true) where
      sound_is : sound (names_in (fields_by r l.p (made d cs) (inputs cs))) ≡ true
      sound_is = ap (λ (s : Schema). sound (names_in s)) (sym fields_is) ∙ g

      -- one that is known to be sound
      pub rule_known : (joins r && not (gives_both r l.p)) ≡ false → true ≡ name_ok c l cs
      rule_known e = rule_plan (sym (own_rule r l.p (made d cs) (inputs cs) e sound_is))

      -- a semi or anti join whose own fields are known to be sound: the input that has them is
      pub rule_beside : (joins r && not (gives_both r l.p)) ≡ true → {b : Bool}
          → (sound (names_in (input (own Joins l.p) (inputs cs))) ≡ true → b ≡ sound_by Joins l.p (made d cs) (inputs cs))
          → b ≡ name_ok c l cs
      rule_beside e {b} h =
          let o = one_side r l.p (made d cs) (inputs cs) e sound_is in
          rule_plan (subst (λ (x : Role). b ≡ sound_by x l.p (made d cs) (inputs cs)) (sym o.0) (h o.1))

-- the inputs that are known where a record keeps the rule: one that is no plan has none
pub sound_below : (c : Scope) (l : Label) (cs : Forest) {r : Role} {n : ℕ} → r ≡ role (what l) → n ≡ known_inputs r → name_ok c l cs ≡ true
    → (i : ℕ) → i < n → sound (names_in (input i (inputs cs))) ≡ true
sound_below c l cs {r} {n} R e g i m = go (what l) refl
  where
    none_known : {w : What} → what l ≡ w → role w ≡ NoPlan → ⊥
    none_known q y = let k : n ≡ 0 = e ∙ rw (R, q, y) in omega arith

    go : (w : What) → what l ≡ w → sound (names_in (input i (inputs cs))) ≡ true
    go (expr k) q = absurd (none_known q refl)
    go (part k) q = absurd (none_known q refl)
    go unknown q = absurd (none_known q refl)
    go (plan k) q =
        known_sound r l.p _ (inputs cs) (sym (rule_is c l cs R (ap plan_w q)) ∙ g) i (rw e at m)

-- ---- what is known below and after a record

module _ {f : Forest} {l : Label} {cs ns : Forest} (w : f ≡ node l cs ns) where
  -- the record's own schema, where it is a plan
  pub sound_first : (n : ℕ) → ((i : ℕ) → i < n → sound (names_in (input i (inputs f))) ≡ true) → ltb 0 n ≡ true
      → sound (names_in (input 0 (inputs (node l cs none)))) ≡ true
  unfolding sound names_in input inputs ◌&◌
  sound_first n known z =
      go (what l) (subst (λ (g : Forest). sound (names_in (input 0 (inputs g))) ≡ true) w (known 0 (ltb-true 0 n z)))
    where
      go : (u : What) → sound (names_in (input 0 (inputs_by u l cs (inputs cs) (inputs ns)))) ≡ true
          → sound (names_in (input 0 (inputs_by u l cs (inputs cs) (inputs none)))) ≡ true
      go (expr k) e = refl
      go (K.part k) e = refl
      go unknown e = refl
      go (plan k) e = e

  module _ (n : ℕ) (known : (i : ℕ) → i < n → sound (names_in (input i (inputs f))) ≡ true) where
    -- those of the plans which come next: where it is none
    pub sound_rest : is_plan l ≡ false → (i : ℕ) → i < n → sound (names_in (input i (inputs ns))) ≡ true
    sound_rest z i m = subst (λ (t : Schema). sound (names_in t) ≡ true) (ap (input i) (skip_part w z)) (known i m)

    -- where it is one
    pub sound_next : is_plan l ≡ true → (i : ℕ) → i < n - 1 → sound (names_in (input i (inputs ns))) ≡ true
    unfolding input
    sound_next z i m = subst (λ (t : Schema). sound (names_in t) ≡ true) (ap (input (suc i)) (plan_first w z)) (known (suc i) (omega arith))
