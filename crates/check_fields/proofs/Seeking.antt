-- Laws of the search for a field.
--     seek-++, seek_name, seek_passed, passed_told    of two schemas; what the first place and the last one tell
--     made_done, made_pass, made_skip, made_found     a record more among the parts
--     plan_fields, missing                            the plan with a place
--     of_parts, of_input, of_second, of_more, of_one  the fields of a plan by its role
-- Assumes nothing.
use mathlib.Core.Path.{◌≡◌, refl, sym, ap, ◌∙◌}
use mathlib.Core.Bool.{Bool, true, false, cond, ◌&&◌}
use mathlib.Core.List.{List, [], ◌∷◌, ◌++◌, map}
use Prim.Native.Nat.{ℕ, zero, suc, ◌+◌, ◌-◌, ◌≤◌}
use native.Mathlib.Omega.{arith}
use lib.Dec.{eqb}
use lib.ListN.{drop}
use borrow.Author.Tests.{eq-eqb, ne_eqb}
use Rattle.image.specs.Tree.{Label, Forest, none, node, Tree, size}
use Rattle.image.specs.Subtrees.{Below, forest, tree_of}
use Rattle.image.specs.declared.trees.Stretch.{Stretch}
use Rattle.image.specs.declared.trees.Stretches.{Stretches}
use Rattle.std.specs.declared.ops.ControlFlow.{ControlFlow}
use Rattle.std.specs.declared.ops.ControlFlow.TheVariants.{Break, Continue}
use Rattle.std.specs.Prelude.{Option, None, Some}
use Rattle.plan.specs.Kinds as K
use Rattle.plan.specs.Kinds.{What, expr, plan, part, unknown, what}
use Rattle.plan.specs.FieldSources.{makes, role, creates, extends, gives_both, own}
use Rattle.plan.specs.declared.field_sources.Role.{Role}
use Rattle.plan.specs.declared.field_sources.Role.TheVariants.{NoPlan, Creates, Joins, Renames, Extends, Passes}
use Rattle.plan.specs.Kinds.{is_plan}
use Rattle.plan.specs.Inputs.{plans_in, PlanAt, PlansAt}
use Rattle.plan.specs.Lists.{◌&◌}
use Rattle.plan.specs.Schema.{same}
use Rattle.plan.specs.Syntax.{Name, nm}
use Rattle.plan.proofs.Bools.{no_yes}
use Rattle.check_fields.specs.Fields.{Schema, name_of, input, made, schema_made_by, inputs, parts_over, fields_by, requalify, type_in}
use Rattle.check_fields.specs.Count.{hits, hit, counted, below, under_alias}
use Rattle.check_fields.specs.declared.questions.Question.{Question}
use Rattle.check_fields.specs.declared.questions.Question.TheVariants.{Exact}
use Rattle.check_fields.specs.Typed.{part_type}
use Rattle.check_fields.specs.Seek.{Sought, seek, told, told_in, type_found, all_places, passed_of, Makes, Fieldless}
use Rattle.check_fields.specs.declared.fields.FieldType.{FieldType}
use Rattle.check_fields.specs.declared.fields.FieldType.TheVariants.{Named}
use Rattle.check_fields.proofs.Counting.{renamed_one, inputs_after, inputs_none, fields_here, behind, by_parts, by_input}

-- where the first search has it not, the second goes on
abbrev pub onward : Sought → (ℕ → Sought) → Sought
onward (Break t) g = Break t
onward (Continue j) g = g j

module _ (h : Name → Bool) where
  -- of two schemas, one after the other
  pub seek-++ : (k : ℕ) (s t : Schema) → seek h k (s ++ t) ≡ onward (seek h k s) (λ j. seek h j t)
  unfolding seek
  seek-++ k [] t = refl
  seek-++ k (f ∷ s) t = go (h f.name) (eqb k 0) (seek-++ (k - 1) s t) (seek-++ k s t)
    where
      go : (a b : Bool) → seek h (k - 1) (s ++ t) ≡ onward (seek h (k - 1) s) (λ j. seek h j t)
          → seek h k (s ++ t) ≡ onward (seek h k s) (λ j. seek h j t)
          → cond a (cond b (Break f.ty) (seek h (k - 1) (s ++ t))) (seek h k (s ++ t))
          ≡ onward (cond a (cond b (Break f.ty) (seek h (k - 1) s)) (seek h k s)) (λ j. seek h j t)
      go true true e g = refl
      go true false e g = e
      go false b e g = g

  -- a place past the last: all were passed
  seek_all : (k : ℕ) (s : Schema) → counted h s ≤ k → seek h k s ≡ Continue (k - counted h s)
  unfolding seek counted
  seek_all k [] l = let e : k - 0 ≡ k = omega arith in rw e
  seek_all k (f ∷ s) l = go (h f.name) l (seek_all (k - 1) s) (seek_all k s)
    where
      go : (a : Bool) → cond a (counted h s + 1) (counted h s) ≤ k
          → (counted h s ≤ k - 1 → seek h (k - 1) s ≡ Continue (k - 1 - counted h s)) → (counted h s ≤ k → seek h k s ≡ Continue (k - counted h s))
          → cond a (cond (eqb k 0) (Break f.ty) (seek h (k - 1) s)) (seek h k s) ≡ Continue (k - cond a (counted h s + 1) (counted h s))
      go true l e g =
          let z : k - 1 - counted h s ≡ k - (counted h s + 1) = omega arith in
          rw (ne_eqb k 0 (λ q. omega arith), e (omega arith), z)
      go false l e g = g l

  -- how many were passed
  pub seek_passed : (s : Schema) {x : Sought} → counted h s ≤ all_places → x ≡ seek h all_places s → passed_of x ≡ counted h s
  seek_passed s l e =
      let z : all_places - (all_places - counted h s) ≡ counted h s = omega arith in
      ap passed_of (e ∙ seek_all all_places s l) ∙ z

  -- of a search that told a name and no type yet, too
  pub passed_told : (d : Schema) (s : Schema) (x : ControlFlow FieldType ℕ) → counted h s ≤ all_places → told_in d x ≡ seek h all_places s
      → passed_of x ≡ counted h s
  passed_told d s x l e = same x ∙ seek_passed s l e
    where
      same : (y : ControlFlow FieldType ℕ) → passed_of y ≡ passed_of (told_in d y)
      same (Break t) = refl
      same (Continue k) = refl

  -- a search over no parts has passed the same
  pub seek_none : (k : ℕ) (s : Schema) → s ≡ [] → seek h k s ≡ Continue k
  unfolding seek
  seek_none k s e = rw e

-- the first field with a qualifier and a name has the type of the definition
pub seek_name : (q n : ℕ) (s : Schema) → type_found (seek (hits (Exact q n)) 0 s) ≡ type_in s (nm q n)
unfolding seek type_in ◌&◌
seek_name q n [] = refl
seek_name q n (f ∷ s) = step f.name (seek_name q n s)
  where
    go : (a b : Bool) (t : ℕ) → type_found (seek (hits (Exact q n)) 0 s) ≡ t
        → type_found (cond (a && b) (Break f.ty) (seek (hits (Exact q n)) 0 s)) ≡ cond (a & b) f.ty t
    go true true t e = refl
    go true false t e = e
    go false b t e = e

    step : (x : Name) → type_found (seek (hits (Exact q n)) 0 s) ≡ type_in s (nm q n)
        → type_found (seek (hits (Exact q n)) 0 (record { name = x; ty = f.ty } ∷ s)) ≡ cond (same x (nm q n)) f.ty (type_in s (nm q n))
    step (nm r m) e = go (eqb r q) (eqb m n) (type_in s (nm q n)) e

-- an alias changes the question
seek_renamed : (asks : Question) (p k : ℕ) (s : Schema) → seek (hits asks) k (map (requalify p) s) ≡ seek (hits (under_alias p asks)) k s
unfolding seek requalify
seek_renamed asks p k [] = refl
seek_renamed asks p k (f ∷ s) = step f.name (seek_renamed asks p (k - 1) s) (seek_renamed asks p k s)
  where
    step : (x : Name) → seek (hits asks) (k - 1) (map (requalify p) s) ≡ seek (hits (under_alias p asks)) (k - 1) s
        → seek (hits asks) k (map (requalify p) s) ≡ seek (hits (under_alias p asks)) k s
        → seek (hits asks) k (map (requalify p) (record { name = x; ty = f.ty } ∷ s))
        ≡ seek (hits (under_alias p asks)) k (record { name = x; ty = f.ty } ∷ s)
    step (nm r m) e g = rw (renamed_one asks p r m, e, g)

-- ---- the parts

-- the field that one part makes
seek_made_by : (h : Name → Bool) (k : ℕ) (d : Schema) (l : Label) (cs : Forest) (rest : Schema) (w : What)
    → seek h k (schema_made_by w d l cs rest)
    ≡ cond (makes w && h (name_of l)) (cond (eqb k 0) (Break (part_type w d l cs)) (seek h (k - 1) rest)) (seek h k rest)
unfolding seek
seek_made_by h k d l cs rest (expr i) = refl
seek_made_by h k d l cs rest (plan i) = refl
seek_made_by h k d l cs rest unknown = refl
seek_made_by h k d l cs rest (part K.FieldPart) = refl
seek_made_by h k d l cs rest (part K.EntryPart) = refl
seek_made_by h k d l cs rest (part K.PairPart) = refl
seek_made_by h k d l cs rest (part K.KeyPart) = refl
seek_made_by h k d l cs rest (part K.AggPart) = refl
seek_made_by h k d l cs rest (part K.WinPart) = refl

-- of the parts f those of g are still to come, and j of the k to be passed
abbrev pub Made : Question → ℕ → ℕ → Forest → Forest → Type 0
Made asks k j f g = (d : Schema) → seek (hits asks) k (made d f) ≡ seek (hits asks) j (made d g)

-- none is still to come
pub made_done : (asks : Question) (k j : ℕ) (f g : Forest) → Made asks k j f g → g ≡ none → (d : Schema) → Continue j ≡ seek (hits asks) k (made d f)
unfolding seek made
made_done asks k j f g e z d = sym (e d ∙ rw z refl)

-- whether the label is a part's that is asked for
abbrev pub asked_for : Question → Label → Bool
asked_for asks l = makes (what l) && hit asks l.p l.q

module _ (asks : Question) (j : ℕ) {f : Forest} {l : Label} {cs ns : Forest} (w : f ≡ node l cs ns) where
  made_turn : (z : Bool) → asked_for asks l ≡ z → (d : Schema)
      → seek (hits asks) j (made d f)
      ≡ cond z (cond (eqb j 0) (Break (part_type (what l) d l cs)) (seek (hits asks) (j - 1) (made d ns))) (seek (hits asks) j (made d ns))
  unfolding made
  made_turn z m d = ap (λ (g : Forest). seek (hits asks) j (made d g)) w ∙ seek_made_by (hits asks) j d l cs (made d ns) (what l) ∙ rw m

  -- a part that is not asked for
  pub made_skip : asked_for asks l ≡ false → Made asks j j f ns
  made_skip m d = made_turn false m d

  -- one that is passed
  pub made_pass : asked_for asks l ≡ true → (j ≡ 0 → ⊥) → Made asks j (j - 1) f ns
  made_pass m z d = made_turn true m d ∙ rw (ne_eqb j 0 z)

  -- the one sought
  pub made_found : asked_for asks l ≡ true → j ≡ 0 → (d : Schema) → Break (part_type (what l) d l cs) ≡ seek (hits asks) j (made d f)
  made_found m z d = sym (made_turn true m d ∙ rw (eq-eqb j 0 z))

-- ---- the plan with a place

-- the schema with a place is the first past those before it
input_drop : (k : ℕ) (ss : List Schema) → input k ss ≡ input 0 (drop k ss)
unfolding input
input_drop zero ss = refl
input_drop (suc k) [] = refl
input_drop (suc k) (s ∷ ss) = input_drop k ss

-- the schema of a plan is the first of those from it on
pub fields_after : (f g : Forest) (i : ℕ) → drop i (plans_in f) ≡ plans_in g → input 0 (inputs g) ≡ input i (inputs f)
fields_after f g i e = sym (input_drop i (inputs f) ∙ ap (input 0) (inputs_after f g i e))

-- .. of the one that was found
pub plan_fields : {N : ℕ} {x : Stretches N} {i : ℕ} {t : Stretch N} (y : PlanAt x i t) → input 0 (inputs (forest y.trees)) ≡ input i (inputs (forest x))
plan_fields {N} {x} {i} y = fields_after (forest x) (forest y.trees) i y.plans

-- there is no such plan
pub missing : (f : Forest) (i : ℕ) → drop i (plans_in f) ≡ [] → input i (inputs f) ≡ []
unfolding input
missing f i e = input_drop i (inputs f) ∙ ap (input 0) (inputs_none f i e)

pub plan_missing : (asks : Question) (f : Forest) (i : ℕ) → drop i (plans_in f) ≡ [] → Fieldless f i asks
plan_missing asks f i e k = sym (seek_none (hits asks) k _ (missing f i e))

-- ---- a name that was found, told over a schema

module _ (d : Schema) {x : ControlFlow FieldType ℕ} {z : Sought} (e : told_in d x ≡ z) {y : FieldType} (g : x ≡ Break y) {a b : ℕ} (n : y ≡ Named a b) where
  told_y : Break (told d y) ≡ z
  told_y = sym (ap (told_in d) g) ∙ e

  -- over no schema it has no type
  pub told_none : d ≡ [] → Break 0 ≡ z
  unfolding type_in
  told_none h = (let k : told d y ≡ 0 = rw (n, h) in sym (ap (λ (t : ℕ). Break t) k) ∙ told_y)

  -- over the input's, that of the field
  pub told_named : {t : ℕ} {u : Sought} → t ≡ type_found u → u ≡ seek (hits (Exact a b)) 0 d → Break t ≡ z
  told_named {t} p u =
      let i : t ≡ told d y = p ∙ ap type_found u ∙ seek_name a b d ∙ sym (ap (told d) n) in
      ap (λ (k : ℕ). Break k) i ∙ told_y

-- the schema that the parts of a plan that is no scan stand over
pub parts_input : (kind : ℕ) (ins : List Schema) → (kind ≡ K.number_p K.TableScan → ⊥) → parts_over kind ins ≡ input 0 ins
parts_input kind ins z = rw (ne_eqb kind (K.number_p K.TableScan) z)

-- ---- the fields of a plan

-- where nothing stands behind, the search ends
onward_none : (h : Name → Bool) (x : Sought) → onward x (λ j. seek h j []) ≡ x
unfolding seek
onward_none h (Break t) = refl
onward_none h (Continue j) = refl

module _ (asks : Question) (k : ℕ) where
  -- by the role of a plan whose parts do not make all: the input's, by the question for it, and then what stands behind
  seek_by_role : (p : ℕ) (parts : Schema) (ins : List Schema) (r : Role) → creates r ≡ false
      → seek (hits asks) k (fields_by r p parts ins)
      ≡ onward (seek (hits (below r p asks)) k (input (own r p) ins)) (λ j. seek (hits asks) j (behind p parts ins r))
  seek_by_role p parts ins NoPlan e = ap (seek (hits asks) k) (by_input p parts ins NoPlan refl refl) ∙ seek-++ (hits asks) k _ _
  seek_by_role p parts ins Creates e = no_yes (sym e)
  seek_by_role p parts ins Joins e = ap (seek (hits asks) k) (by_input p parts ins Joins refl refl) ∙ seek-++ (hits asks) k _ _
  seek_by_role p parts ins Renames e = seek_renamed asks p k (input 0 ins) ∙ sym (onward_none (hits asks) _)
  seek_by_role p parts ins Extends e = seek-++ (hits asks) k _ _
  seek_by_role p parts ins Passes e = ap (seek (hits asks) k) (by_input p parts ins Passes refl refl) ∙ seek-++ (hits asks) k _ _

  module _ {f : Forest} {l : Label} {cs ns : Forest} (w : f ≡ node l cs ns) (z : is_plan l ≡ true) {r : Role} (R : r ≡ role (what l)) where
    -- the schemas of the plan's inputs, and the fields of its parts
    abbrev ins : List Schema
    ins = inputs cs

    abbrev parts_of : Schema
    parts_of = made (parts_over l.kind ins) cs

    -- what the input is asked
    abbrev pub asked : Sought
    asked = seek (hits (below r l.p asks)) k (input (own r l.p) ins)

    -- its parts make its fields
    pub of_parts : creates r ≡ true → seek (hits asks) k parts_of ≡ seek (hits asks) k (input 0 (inputs f))
    of_parts c = sym (ap (seek (hits asks) k) (fields_here w z R ∙ by_parts l.p parts_of ins r c))

    -- and then
    abbrev after : ℕ → Sought
    after = λ j. seek (hits asks) j (behind l.p parts_of ins r)

    module _ (c : creates r ≡ false) where
      of_role : onward asked after ≡ seek (hits asks) k (input 0 (inputs f))
      of_role = sym (ap (seek (hits asks) k) (fields_here w z R) ∙ seek_by_role l.p parts_of ins r c)

      -- the input has it
      pub of_input : (x : Sought) → x ≡ asked → ((g : ℕ → Sought) → onward x g ≡ x) → x ≡ seek (hits asks) k (input 0 (inputs f))
      of_input x e stop = sym (stop after) ∙ ap (λ (t : Sought). onward t after) e ∙ of_role

      -- it has it not: the other input, the parts, or none
      module _ {j : ℕ} (e : Continue j ≡ asked) where
        pub of_second : gives_both r l.p ≡ true → seek (hits asks) j (input 1 ins) ≡ seek (hits asks) k (input 0 (inputs f))
        of_second g = rw g at (ap (λ (t : Sought). onward t after) e ∙ of_role)

        pub of_more : gives_both r l.p ≡ false → extends r ≡ true
            → seek (hits asks) j parts_of ≡ seek (hits asks) k (input 0 (inputs f))
        of_more g d = rw (g, d) at (ap (λ (t : Sought). onward t after) e ∙ of_role)

      -- nothing stands behind the input's
      pub of_one : gives_both r l.p ≡ false → extends r ≡ false → asked ≡ seek (hits asks) k (input 0 (inputs f))
      of_one g d =
          let b : [] ≡ behind l.p parts_of ins r = rw (g, d) in
          sym (onward_none (hits asks) asked) ∙ ap (λ (t : Schema). onward asked (λ j. seek (hits asks) j t)) b ∙ of_role

-- ---- the plan that is asked

-- the plan that is sought is asked, or there is none
abbrev pub Asked : {N : ℕ} → Stretches N → ℕ → Question → Option (Stretch N) → Question → Type 0
Asked x i asks None m = Fieldless (forest x) i asks
Asked x i asks (Some t) m = Makes x i asks t m

-- the measure: how many trees there are below it
abbrev pub depth_left : {N : ℕ} → Option (Stretch N) → ℕ
depth_left None = 0
depth_left (Some t) = suc (size (tree_of t).below)

-- the plan with the place itself
pub asked_start : {N : ℕ} (x : Stretches N) (i : ℕ) (asks : Question) (r : Option (Stretch N)) → PlansAt x i r → Asked x i asks r asks
asked_start x i asks None e = plan_missing asks (forest x) i e
asked_start x i asks (Some t) y =
    record {
      trees = y.trees;
      after = y.after;
      image = y.image;
      base = y.base;
      first = y.first;
      is = y.is;
      same = λ k. ap (seek (hits asks) k) (plan_fields y);
      fewer = y.fewer;
    }

-- past a plan that has one input's fields and no others
module _ {N : ℕ} {s : Stretches N} {i : ℕ} {asks m : Question} {u : Stretch N} (y : Makes s i asks u m) {x : Role} (X : x ≡ role (what (tree_of u).label))
    (c : creates x ≡ false) (d : extends x ≡ false) (g : gives_both x (tree_of u).label.p ≡ false) where
  abbrev t : Tree
  t = tree_of u

  one_input : (k : ℕ) → seek (hits (below x t.label.p m)) k (input (own x t.label.p) (inputs t.below)) ≡ seek (hits asks) k (input i (inputs (forest s)))
  one_input k = of_one m k y.first.is y.is X c g d ∙ y.same k

  pub asked_next : {o : Question} {j : ℕ} → o ≡ below x t.label.p m → j ≡ own x t.label.p
      → {b : Stretches N} → Below u b → (z : Option (Stretch N)) → PlansAt b j z → Asked s i asks z o
  asked_next {o} {j} O J {b} w None e =
      let none : input (own x t.label.p) (inputs t.below) ≡ [] =
      ap (λ (n : ℕ). input n (inputs t.below)) (sym J) ∙ ap (λ (f : Forest). input j (inputs f)) (sym w.is) ∙ missing (forest b) j e in
      λ k. sym (seek_none (hits (below x t.label.p m)) k _ none) ∙ one_input k
  asked_next {o} {j} O J {b} w (Some n) z =
      let fields : input 0 (inputs (forest z.trees)) ≡ input (own x t.label.p) (inputs t.below) =
      plan_fields z ∙ ap (λ (f : Forest). input j (inputs f)) w.is ∙ ap (λ (e : ℕ). input e (inputs t.below)) J in
      record {
        trees = z.trees;
        after = z.after;
        image = z.image ∙ w.image ∙ y.first.image ∙ y.image;
        base = z.base ∙ w.base ∙ y.first.base ∙ y.base;
        first = z.first;
        is = z.is;
        same =
            λ k. ap (λ (a : Question). seek (hits a) k (input 0 (inputs (forest z.trees)))) O
            ∙ ap (seek (hits (below x t.label.p m)) k) fields ∙ one_input k;
        fewer = omega (arith, z.fewer, y.fewer, ap size y.first.is, ap size w.is);
      }
