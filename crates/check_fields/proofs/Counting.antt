-- Laws of counting: what a part makes, what a plan has from its inputs, and that no count is more than the records.
-- Assumes nothing.
use mathlib.Core.Path.{◌≡◌, refl, sym, ap, ◌∙◌}
use mathlib.Core.Bool.{Bool, true, false, cond, ◌&&◌, ◌||◌}
use mathlib.Core.List.{List, [], ◌∷◌, ◌++◌, map, append-nil}
use Prim.Native.Nat.{ℕ, zero, suc, ◌+◌, ◌-◌, ◌*◌, ◌≤◌}
use native.Mathlib.Omega.{arith}
use lib.Dec.{eqb, leb}
use lib.ListN.{length, drop, length-drop, length-append}
use borrow.Author.Tests.{leb-true, eqb-true}
use Rattle.image.specs.Lowest.{alone}
use Rattle.image.specs.Tree.{Label, Forest, none, node, Tree, size, Stands, Linked}
use Rattle.image.specs.Subtrees.{forest}
use Rattle.image.specs.declared.trees.Stretch.{Stretch}
use Rattle.image.specs.declared.trees.Stretches.{Stretches}
use Rattle.plan.specs.Kinds as K
use Rattle.plan.specs.Kinds.{What, expr, plan, part, unknown, what, plan_w, is_plan}
use Rattle.plan.specs.FieldSources.{role, role_p, creates, renames, extends, gives_both, own}
use Rattle.plan.specs.declared.field_sources.Role.{Role}
use Rattle.plan.specs.declared.field_sources.Role.TheVariants.{NoPlan, Creates, Joins, Renames, Extends, Passes}
use Rattle.plan.specs.Inputs.{plans_in, PlanAt}
use Rattle.plan.specs.Lists.{put}
use Rattle.plan.specs.Syntax.{Name, nm, full, right_semi, right_anti}
use Rattle.plan.specs.Trees.{join_number}
use Rattle.plan.proofs.Bools.{no_yes}
use Rattle.plan.proofs.Rebuilt.{kind_p}
use Rattle.check_fields.specs.Fields.{Schema, input, made, schema_made_by, inputs, inputs_by, parts_over, fields_by, requalify, join_fields}
use Rattle.check_fields.specs.Count.{hits, hit, near, counted, under_alias}
use Rattle.check_fields.specs.declared.questions.Question.{Question}
use Rattle.check_fields.specs.declared.questions.Question.TheVariants.{Exact, ByName, Every, Clashing, Nothing}

module _ (h : Name → Bool) where
  -- of two schemas, one after the other
  pub counted-++ : (s t : Schema) → counted h (s ++ t) ≡ counted h s + counted h t
  unfolding counted
  counted-++ [] t = omega arith
  counted-++ (f ∷ s) t = go (h f.name) (counted-++ s t)
    where
      go : (b : Bool) → counted h (s ++ t) ≡ counted h s + counted h t
          → cond b (counted h (s ++ t) + 1) (counted h (s ++ t)) ≡ cond b (counted h s + 1) (counted h s) + counted h t
      go true e = omega arith
      go false e = e

  -- no more than there are
  pub counted_le : (s : Schema) → counted h s ≤ length s
  unfolding counted
  counted_le [] = omega arith
  counted_le (f ∷ s) = go (h f.name) (counted_le s)
    where
      go : (b : Bool) → counted h s ≤ length s → cond b (counted h s + 1) (counted h s) ≤ suc (length s)
      go true e = omega arith
      go false e = omega arith

-- ---- the inputs

-- the schema of a plan's tree
abbrev own_schema : Tree → Schema
own_schema t = input 0 (inputs (alone t))

-- the schemas of a forest are those of its plans
inputs_of : (f : Forest) → inputs f ≡ map own_schema (plans_in f)
unfolding inputs plans_in put input
inputs_of none = refl
inputs_of (node l cs ns) = go (what l) refl (inputs_of ns)
  where
    go : (w : What) → what l ≡ w → inputs ns ≡ map own_schema (plans_in ns)
        → inputs_by w l cs (inputs cs) (inputs ns) ≡ map own_schema (put (plan_w w) (record { label = l; below = cs }) (plans_in ns))
    go (expr k) q e = e
    go (part k) q e = e
    go unknown q e = e
    go (plan k) q e = rw (q, e)

drop_map : (i : ℕ) (ts : List Tree) → drop i (map own_schema ts) ≡ map own_schema (drop i ts)
drop_map zero ts = refl
drop_map (suc i) [] = refl
drop_map (suc i) (t ∷ ts) = drop_map i ts

-- so from a plan on
pub inputs_after : (f g : Forest) (i : ℕ) → drop i (plans_in f) ≡ plans_in g → drop i (inputs f) ≡ inputs g
inputs_after f g i e = ap (drop i) (inputs_of f) ∙ drop_map i (plans_in f) ∙ ap (map own_schema) e ∙ sym (inputs_of g)

-- .. the one that was found
pub inputs_from : {N : ℕ} {x : Stretches N} {i : ℕ} {t : Stretch N} (y : PlanAt x i t) → drop i (inputs (forest x)) ≡ inputs (forest y.trees)
inputs_from {N} {x} {i} y = inputs_after (forest x) (forest y.trees) i y.plans

-- there is none
pub inputs_none : (f : Forest) (i : ℕ) → drop i (plans_in f) ≡ [] → drop i (inputs f) ≡ []
inputs_none f i e = ap (drop i) (inputs_of f) ∙ drop_map i (plans_in f) ∙ ap (map own_schema) e

module _ {f : Forest} {l : Label} {cs ns : Forest} (w : f ≡ node l cs ns) where
  inputs_is : inputs f ≡ inputs_by (what l) l cs (inputs cs) (inputs ns)
  unfolding inputs
  inputs_is = ap inputs w

  -- a record that is no plan is passed over
  pub skip_part : is_plan l ≡ false → inputs f ≡ inputs ns
  skip_part z = inputs_is ∙ go (what l) z
    where
      go : (u : What) → plan_w u ≡ false → inputs_by u l cs (inputs cs) (inputs ns) ≡ inputs ns
      go (expr k) e = refl
      go (K.part k) e = refl
      go unknown e = refl
      go (plan k) e = no_yes (sym e)

  -- a plan's schema, by its role, stands in front
  pub plan_first : is_plan l ≡ true
      → inputs f ≡ fields_by (role (what l)) l.p (made (parts_over l.kind (inputs cs)) cs) (inputs cs) ∷ inputs ns
  plan_first z = inputs_is ∙ go (what l) refl z
    where
      go : (u : What) → what l ≡ u → plan_w u ≡ true
          → inputs_by u l cs (inputs cs) (inputs ns) ≡ fields_by (role u) l.p (made (parts_over l.kind (inputs cs)) cs) (inputs cs) ∷ inputs ns
      go (expr k) q e = no_yes e
      go (K.part k) q e = no_yes e
      go unknown q e = no_yes e
      go (plan k) q e = rw (kind_p l k q)

  pub fields_here : is_plan l ≡ true → {r : Role} → r ≡ role (what l)
      → input 0 (inputs f) ≡ fields_by r l.p (made (parts_over l.kind (inputs cs)) cs) (inputs cs)
  unfolding input
  fields_here z R = rw (R, plan_first z)

-- below an alias one asks by the name alone, or for none
pub renamed_one : (asks : Question) (p r m : ℕ) → hit asks p m ≡ hit (under_alias p asks) r m
renamed_one (Exact q n) p r m = go (eqb p q)
  where
    go : (b : Bool) → (b && eqb m n) ≡ hit (cond b (ByName n) Nothing) r m
    go true = refl
    go false = refl
renamed_one (ByName n) p r m = refl
renamed_one Every p r m = refl
renamed_one (Clashing q n) p r m = go (near q p)
  where
    go : (b : Bool) → (b && eqb m n) ≡ hit (cond b (ByName n) Nothing) r m
    go true = refl
    go false = refl
renamed_one Nothing p r m = refl

-- so an alias changes the question
pub renamed : (asks : Question) (p : ℕ) (s : Schema) → counted (hits asks) (map (requalify p) s) ≡ counted (hits (under_alias p asks)) s
unfolding counted requalify
renamed asks p [] = refl
renamed asks p (f ∷ s) = step f.name (renamed asks p s)
  where
    step : (x : Name) → counted (hits asks) (map (requalify p) s) ≡ counted (hits (under_alias p asks)) s
        → counted (hits asks) (map (requalify p) (record { name = x; ty = f.ty } ∷ s))
        ≡ counted (hits (under_alias p asks)) (record { name = x; ty = f.ty } ∷ s)
    step (nm r m) e = rw (renamed_one asks p r m, e)

-- ---- the fields of a plan by its role

module _ (p : ℕ) (parts : Schema) (ins : List Schema) where
  -- what stands behind the fields of the input that come first
  abbrev pub behind : Role → Schema
  behind r = cond (gives_both r p) (input 1 ins) (cond (extends r) parts [])

  -- a plan whose parts make its fields
  pub by_parts : (r : Role) → creates r ≡ true → fields_by r p parts ins ≡ parts
  by_parts Creates e = refl
  by_parts NoPlan e = no_yes e
  by_parts Joins e = no_yes e
  by_parts Renames e = no_yes e
  by_parts Extends e = no_yes e
  by_parts Passes e = no_yes e

  -- an alias
  pub by_alias : (r : Role) → renames r ≡ true → fields_by r p parts ins ≡ map (requalify p) (input 0 ins)
  by_alias Renames e = refl
  by_alias NoPlan e = no_yes e
  by_alias Creates e = no_yes e
  by_alias Joins e = no_yes e
  by_alias Extends e = no_yes e
  by_alias Passes e = no_yes e

  -- a join
  by_join : join_fields p (input 0 ins) (input 1 ins) ≡ input (own Joins p) ins ++ behind Joins
  unfolding join_fields input
  by_join = go (leb p (join_number full)) refl (eqb p (join_number right_semi)) refl (eqb p (join_number right_anti)) refl
    where
      go : (a : Bool) → leb p (join_number full) ≡ a → (x : Bool) → eqb p (join_number right_semi) ≡ x → (y : Bool) → eqb p (join_number right_anti) ≡ y
          → cond a (input 0 ins ++ input 1 ins) (input (cond (x || y) 1 0) (input 0 ins ∷ input 1 ins ∷ []))
          ≡ input (cond (x || y) 1 0) ins ++ cond a (input 1 ins) []
      go true e true g y h = absurd (omega (arith, leb-true p (join_number full) e, eqb-true p (join_number right_semi) g))
      go true e false g true h = absurd (omega (arith, leb-true p (join_number full) e, eqb-true p (join_number right_anti) h))
      go true e false g false h = refl
      go false e true g y h = sym (append-nil (input 1 ins))
      go false e false g true h = sym (append-nil (input 1 ins))
      go false e false g false h = sym (append-nil (input 0 ins))

  -- any other
  pub by_input : (r : Role) → creates r ≡ false → renames r ≡ false → fields_by r p parts ins ≡ input (own r p) ins ++ behind r
  by_input NoPlan e g = sym (append-nil (input 0 ins))
  by_input Creates e g = no_yes (sym e)
  by_input Joins e g = by_join
  by_input Renames e g = no_yes (sym g)
  by_input Extends e g = refl
  by_input Passes e g = sym (append-nil (input 0 ins))

-- ---- no more fields than records

-- the fields of all schemas together
unfoldable pub total : List Schema → ℕ
total [] = 0
total (s ∷ ss) = length s + total ss

pub total_input : (k : ℕ) (ins : List Schema) → length (input k ins) ≤ total ins
unfolding input total
total_input k [] = omega arith
total_input zero (s ∷ ss) = omega arith
total_input (suc k) (s ∷ ss) = omega (arith, total_input k ss)

pub total_two : (ins : List Schema) → length (input 0 ins) + length (input 1 ins) ≤ total ins
unfolding input total
total_two [] = omega arith
total_two (s ∷ []) = omega arith
total_two (s ∷ (t ∷ ss)) = omega arith

length_renamed : (p : ℕ) (s : Schema) → length (map (requalify p) s) ≡ length s
length_renamed p [] = refl
length_renamed p (f ∷ s) = ap suc (length_renamed p s)

length_join : (p : ℕ) (a b : Schema) → length (join_fields p a b) ≤ length a + length b
unfolding join_fields input
length_join p a b = go (leb p (join_number full)) (eqb p (join_number right_semi) || eqb p (join_number right_anti))
  where
    go : (x y : Bool) → length (cond x (a ++ b) (input (cond y 1 0) (a ∷ b ∷ []))) ≤ length a + length b
    go true y = omega (arith, length-append a b)
    go false true = omega arith
    go false false = omega arith

-- a plan has no more fields than its inputs and its parts
length_fields : (r : Role) (p : ℕ) (parts : Schema) (ins : List Schema) → length (fields_by r p parts ins) ≤ total ins + length parts
length_fields NoPlan p parts ins = omega (arith, total_two ins)
length_fields Creates p parts ins = omega arith
length_fields Joins p parts ins = omega (arith, total_two ins, length_join p (input 0 ins) (input 1 ins))
length_fields Renames p parts ins = omega (arith, total_two ins, length_renamed p (input 0 ins))
length_fields Extends p parts ins = omega (arith, total_two ins, length-append (input 0 ins) parts)
length_fields Passes p parts ins = omega (arith, total_two ins)

-- all plans and parts of a forest have no more fields than it has records
pub enough : (f : Forest) (c : Schema) → total (inputs f) + length (made c f) ≤ size f
unfolding inputs made total
enough none c = omega arith
enough (node l cs ns) c = go (what l) (enough ns c) (λ d. enough cs d)
  where
    go : (w : What) → total (inputs ns) + length (made c ns) ≤ size ns → ((d : Schema) → total (inputs cs) + length (made d cs) ≤ size cs)
        → total (inputs_by w l cs (inputs cs) (inputs ns)) + length (schema_made_by w c l cs (made c ns)) ≤ suc (size cs + size ns)
    go (expr k) e g = omega arith
    go (plan k) e g =
        let d = parts_over (K.number_p k) (inputs cs) in omega (arith, length_fields (role_p k) l.p (made d cs) (inputs cs), g d)
    go (part K.FieldPart) e g = omega arith
    go (part K.EntryPart) e g = omega arith
    go (part K.PairPart) e g = omega arith
    go (part K.KeyPart) e g = omega arith
    go (part K.AggPart) e g = omega arith
    go (part K.WinPart) e g = omega arith
    go unknown e g = omega arith

-- and the records stand in the bytes
size_le : (f : Forest) (s : List ℕ) (b : ℕ) → Stands f s b → 32 * size f ≤ length s
size_le none s b h = omega arith
size_le (node l cs ns) s b h =
    omega (arith, h.head.room, size_le ns (drop (32 * suc (size cs)) s) (b + 1 + size cs) h.after, length-drop (32 * suc (size cs)) s)

linked_size : (f : Forest) (s : List ℕ) (b at : ℕ) → Linked f s b at → 32 * size f ≤ length s
linked_size none s b at h = omega arith
linked_size (node l cs ns) s b at h =
    omega (arith, size_le (node l cs ns) (drop (32 * (at - b)) s) at h.1, length-drop (32 * (at - b)) s)

pub trees_size : {N : ℕ} (x : Stretches N) → 32 * size (forest x) ≤ length x.image.now
trees_size x = linked_size (forest x) _ _ _ x.chained.linked

-- the question for every field counts them all
pub counted_all : (s : Schema) → counted (hits Every) s ≡ length s
unfolding counted
counted_all [] = refl
counted_all (f ∷ s) = step f.name (counted_all s)
  where
    step : (x : Name) → counted (hits Every) s ≡ length s
        → cond (hits Every x) (counted (hits Every) s + 1) (counted (hits Every) s) ≡ suc (length s)
    step (nm r m) e = rw e (omega arith)
