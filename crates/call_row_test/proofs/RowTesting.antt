-- Laws of the row test: the parts of a Filter, what stands at a record, and the tests in their order.
-- Assumes nothing.
use mathlib.Core.Path.{◌≡◌, refl, sym, ap, subst, ◌∙◌}
use mathlib.Core.Bool.{Bool, true, false, not}
use mathlib.Core.List.{List, [], ◌∷◌}
use mathlib.Core.Option.{Option, some}
use Prim.Native.Nat.{ℕ, suc, ◌+◌, ◌-◌, ◌*◌, ◌≤◌, ◌<◌}
use native.Mathlib.Omega.{arith}
use lib.Dec.{leb}
use lib.IntN.{ℤ}
use lib.ListN.{length, take, drop, length-take, length-drop}
use borrow.Author.Tests.{ne_eqb, leb-true}
use Rattle.image.specs.Word.{Bytes, word}
use Rattle.image.specs.Flat.{enc}
use Rattle.image.specs.Limits.{max_depth, max_fields}
use Rattle.std.specs.Prelude.{None, Some, Ok}
use Rattle.image.specs.Lowest.{Found, or_else, unless, lowest, alone}
use Rattle.image.specs.Places.{Stood}
use Rattle.image.specs.Tree as T
use Rattle.image.specs.Tree.{Label, Forest, node, Tree, At, Deep, size}
use Rattle.image.specs.Subtrees.{Subtree}
use Rattle.image.proofs.Subtrees.{tree_is}
use Rattle.plan.specs.Integers.{FitsE}
use Rattle.plan.specs.Kinds.{Filter, number_p, plan_w, what_of, among}
use Rattle.plan.specs.Lists.{choose}
use Rattle.plan.specs.Measure.{size_p}
use Rattle.plan.specs.Schema.{schema}
use Rattle.plan.specs.Syntax.{Expr, Plan, scan, filter, project, join, alias, union, distinct, sort, repartition, limit, aggregate, window, Value}
use Rattle.plan.specs.Trees.{label_e, kids_e, expr_tree, label_p, kids_p, plan_tree}
use Rattle.plan.specs.Types.{types}
use Rattle.plan.proofs.Lists.{and_r}
use Rattle.plan.proofs.Written.{plan_at_back, expr_back}
use Rattle.meaning.specs.Meaning.{tri, is_t, is_f, look, eval}
use Rattle.acceptance.specs.Accepted.{WellFormed}
use Rattle.acceptance.specs.Check.{verdict, check, too_deep}
use Rattle.acceptance.proofs.Accept.{accepted}
use Rattle.acceptance.proofs.Converse.{same_tree, stands_alone}
use Rattle.acceptance.proofs.WellFormed.{well_formed_rules}
use Rattle.acceptance.specs.Names.{sound}
use Rattle.acceptance.proofs.NamesRule.{rule_sound}
use Rattle.acceptance.specs.NamesRule.{rule}
use Rattle.check_fields.specs.Fields.{Schema, input, inputs, names_in}
use Rattle.check_fields.specs.Rules.{types_in}
use Rattle.check_names.proofs.TreeFields.{stand, fields, inputs_expr, inputs_plan, fields_names, fields_types}
use Rattle.utils.specs.Fields.{Fields}
use Rattle.utils.proofs.Named.{names_count, names_fit}
use Rattle.utils.specs.Fields.{Names as NamesOf}
use Rattle.rewrite.proofs.OnBytes.{tree_length}
use Rattle.check_image.specs.Answer.{refused}
use Rattle.check_image.proofs.Accepting.{no_zero}
use Rattle.image.specs.Refusals.{number_of}
use Rattle.image.specs.declared.refusals.Refusal.{Refusal}
use Rattle.rewrite.specs.OnBytes.{plan_in, plan_from_links, is_accepted}
use Rattle.rewrite.specs.RewriteAt.{Focus, focus}
use Rattle.rewrite.specs.RowTest.{row_ok, lent, no_functions, no_test, truth_number, test_predicate, test_plan, test_focus, row_test_bytes}
use Rattle.rewrite.specs.Utils.{any_fn}
use Rattle.evaluate.specs.Truths.{value_of}
use Rattle.evaluate.specs.Operators.{expr_in}
use Rattle.call_row_test.specs.Standing.{FilterHere, Sound, Whole}
use Rattle.call_row_test.specs.Answer.{tested_of}
use Rattle.evaluate.specs.declared.logic.Truth.{Truth}
use Rattle.evaluate.proofs.TruthLaws.{never, of_value, of_value_f}
use Rattle.call_row_test.proofs.FieldTypes.{types_length}
use Rattle.call_row_test.proofs.Locating.{Place, there, nowhere}

-- ---- the tests 9 and 10, and the truth

truth_of_tri : (v : Value) → truth_number (tri (is_t v) (is_f v)) ≡ truth_number v
unfolding truth_number
truth_of_tri v = rw (of_value v, of_value_f v)

-- an expression's tree is read as the expression
pub read_back : (e : Expr) → FitsE e → expr_in (expr_tree e) ≡ e
read_back e h = expr_back e h

module _ (n : ℕ) (e : Expr) (p : Plan) (zs : List ℤ) (ms ts : List ℕ) (is : ts ≡ types p) {ok : Bool} (o : ok ≡ row_ok ts zs ms) where
  pub bad_row : not ok ≡ true → no_test (verdict 9 0) ≡ test_predicate n e p zs ms
  unfolding test_predicate choose
  bad_row f = rw (← is, ← o, f)

  module _ {has : Bool} (h : has ≡ any_fn (λ q. true) e) (f : not ok ≡ false) where
    pub with_function : has ≡ true → no_test (verdict 10 n) ≡ test_predicate n e p zs ms
    unfolding test_predicate choose
    with_function y = rw (← is, ← o, f, ← h, y)

    pub with_truth : (t : Truth) (v : Value) → has ≡ false → value_of t ≡ tri (is_t v) (is_f v)
        → v ≡ eval no_functions (look (schema p) (lent (types p) zs ms)) e → tested_of (Ok t) ≡ test_predicate n e p zs ms
    unfolding test_predicate choose
    with_truth t v y r q =
        let u : truth_number (value_of t) ≡ truth_number (eval no_functions (look (schema p) (lent (types p) zs ms)) e) =
        ap truth_number r ∙ truth_of_tri v ∙ ap truth_number q in
        rw (u, ← is, ← o, f, ← h, y)

-- ---- the parts of a Filter

one_node : {l m : Label} {cs ds ns os : Forest} → node l cs ns ≡ node m ds os → (l ≡ m) × (cs ≡ ds) × (ns ≡ os)
one_node e = (cc, cc, cc)

module _ (e : Expr) (p : Plan) {f : Forest} (h : f ≡ kids_p (filter e p)) where
  kids : f ≡ node (label_e e) (kids_e e) (node (label_p p) (kids_p p) T.none)
  unfolding kids_p
  kids = h

  pub no_predicate : f ≡ T.none → ⊥
  no_predicate z = omega (arith, ap size kids, ap size z)

  module _ {a : Tree} {g : Forest} (u : f ≡ node a.label a.below g) where
    first_is : (a.label ≡ label_e e) × (a.below ≡ kids_e e) × (g ≡ node (label_p p) (kids_p p) T.none)
    first_is = one_node (sym u ∙ kids)

    pub predicate_is : a ≡ expr_tree e
    predicate_is = λ i. record { label = first_is.0 i; below = first_is.1 i }

    pub no_input : g ≡ T.none → ⊥
    no_input z = omega (arith, ap size first_is.2, ap size z)

    pub input_is : {b : Tree} {k : Forest} → g ≡ node b.label b.below k → b ≡ plan_tree p
    input_is v = let w = one_node (sym v ∙ first_is.2) in λ i. record { label = w.0 i; below = w.1 i }

-- its schema has at most `max_fields` fields
module _ (e : Expr) (p : Plan) (o : Sound (filter e p)) where
  few : length (schema p) ≤ max_fields
  unfolding rule sound
  few = leb-true (length (schema p)) max_fields (and_r _ _ (rule_sound (λ a b. true) p (and_r _ _ o.names)))

  pub all_fields : {f : Fields} → NamesOf f (schema p) → (f.len ≡ length (schema p)) × (f.len ≤ max_fields)
  all_fields h = let fit = names_fit h few in (sym (names_count h fit), fit)

names_length : (s : Schema) → length (names_in s) ≡ length s
unfolding names_in
names_length [] = refl
names_length (f ∷ s) = ap suc (names_length s)

pub same_width : (p : Plan) → length (types p) ≡ length (schema p)
same_width p = ap length (sym (fields_types p)) ∙ types_length (fields p) ∙ sym (names_length (fields p)) ∙ ap length (fields_names p)

pub narrow : (p : Plan) {ts : List ℕ} → ts ≡ types p → length ts ≤ length (schema p)
narrow p e = rw e (omega (arith, same_width p))

-- on a row of the input's types, the expression that is read
pub on_row : (p : Plan) (zs : List ℤ) (ms : List ℕ) {ts : List ℕ} {x e : Expr} → ts ≡ types p → x ≡ e
    → eval no_functions (look (schema p) (lent ts zs ms)) x ≡ eval no_functions (look (schema p) (lent (types p) zs ms)) e
on_row p zs ms h k = rw (h, k)

pub whole_part : (n : ℕ) (xs : List ℕ) → n ≤ length xs → n ≡ length (take n xs)
whole_part n xs h = rw length-take (omega arith)

-- the table of the types of its input's fields
module _ (e : Expr) (p : Plan) where
  input_fields : inputs (kids_p (filter e p)) ≡ fields p ∷ []
  unfolding kids_p inputs
  input_fields = inputs_expr e (stand p T.none) ∙ inputs_plan p T.none

  first_input : input 0 (inputs (kids_p (filter e p))) ≡ fields p
  unfolding input
  first_input = ap (input 0) input_fields

  pub as_many : {n : ℕ} → n ≡ length (schema p) → length (input 0 (inputs (kids_p (filter e p)))) ≡ n
  as_many h = ap length first_input ∙ sym (names_length (fields p)) ∙ ap length (fields_names p) ∙ sym h

  pub its_types : {ts : List ℕ} → ts ≡ types_in (input 0 (inputs (kids_p (filter e p)))) → ts ≡ types p
  its_types h = h ∙ ap types_in first_input ∙ fields_types p

-- ---- what stands at a record

-- no other plan has a Filter's number
no_filter : (n : ℕ) (p : Plan) (zs : List ℤ) (ms : List ℕ) → ((label_p p).kind ≡ number_p Filter → ⊥) → no_test (verdict 8 n) ≡ test_plan n p zs ms
unfolding test_plan label_p
no_filter n (scan t fs es) zs ms h = refl
no_filter n (filter e p) zs ms h = absurd (h refl)
no_filter n (project es p) zs ms h = refl
no_filter n (join k l r on f) zs ms h = refl
no_filter n (alias q p) zs ms h = refl
no_filter n (union ps) zs ms h = refl
no_filter n (distinct p) zs ms h = refl
no_filter n (sort f ks p) zs ms h = refl
no_filter n (repartition p) zs ms h = refl
no_filter n (limit i j p) zs ms h = refl
no_filter n (aggregate gs ags p) zs ms h = refl
no_filter n (window ws p) zs ms h = refl

-- a plan with a Filter's number is one
pub record AFilter (p : Plan) : Type 0 where
  pub predicate : Expr
  pub input : Plan
  pub is : p ≡ filter predicate input

a_filter : (p : Plan) → (label_p p).kind ≡ number_p Filter → AFilter p
unfolding label_p
a_filter (filter e p) h = record { predicate = e; input = p; is = refl }
a_filter (scan t fs es) h = absurd (omega arith)
a_filter (project es p) h = absurd (omega arith)
a_filter (join k l r on f) h = absurd (omega arith)
a_filter (alias q p) h = absurd (omega arith)
a_filter (union ps) h = absurd (omega arith)
a_filter (distinct p) h = absurd (omega arith)
a_filter (sort f ks p) h = absurd (omega arith)
a_filter (repartition p) h = absurd (omega arith)
a_filter (limit i j p) h = absurd (omega arith)
a_filter (aggregate gs ags p) h = absurd (omega arith)
a_filter (window ws p) h = absurd (omega arith)

module _ {s : List ℕ} {n total : ℕ} (zs : List ℤ) (ms : List ℕ) where
  pub absent : {o : Option Focus} → Place s 0 n total o → length s ≤ 32 * n → no_test (verdict 8 n) ≡ test_focus n o zs ms
  unfolding test_focus
  absent (nowhere h) l = refl
  absent (there o h) l = absurd (omega (arith, h.head.room, length-drop (32 * n) s))

  pub other_kind : {o : Option Focus} → Place s 0 n total o → (word (drop (32 * n) s) 0 ≡ number_p Filter → ⊥) → no_test (verdict 8 n) ≡ test_focus n o zs ms
  unfolding test_focus
  other_kind (nowhere h) k = refl
  other_kind (there {c} o h) k =
      no_filter n c.plan zs ms (λ e. k (ap (λ (l : Label). l.kind) h.head.label ∙ e))

-- a Filter found
pub record Present (s : List ℕ) (n : ℕ) (o : Option Focus) : Type 0 where
  pub place : Focus
  pub is : o ≡ some place
  pub filter_is : AFilter place.plan
  pub sound : Sound place.plan
  pub stands : At (plan_tree place.plan) (drop (32 * n) s) n

pub present : {s : List ℕ} {n total : ℕ} {o : Option Focus} → Place s 0 n total o → n < total → word (drop (32 * n) s) 0 ≡ number_p Filter → Present s n o
unfolding what_of among
present {s} {n} (nowhere h) l k = never (sym (h l) ∙ ap (λ w. plan_w (what_of w)) k)
present {s} {n} (there {c} o h) l k =
    let e : 0 + n ≡ n = omega arith in
    let w : At (plan_tree c.plan) (drop (32 * n) s) n = rw e at h in
    record {
      place = c;
      is = refl;
      filter_is = a_filter c.plan (sym (ap (λ (l : Label). l.kind) h.head.label) ∙ k);
      sound = o;
      stands = w;
    }

module _ {s : List ℕ} {n : ℕ} {o : Option Focus} (f : Present s n o) where
  filter_sound : Sound (filter f.filter_is.predicate f.filter_is.input)
  filter_sound = subst Sound f.filter_is.is f.sound

  filter_stands : At (plan_tree (filter f.filter_is.predicate f.filter_is.input)) (drop (32 * n) s) n
  filter_stands = subst (λ (q : Plan). At (plan_tree q) (drop (32 * n) s) n) f.filter_is.is f.stands

  pub filter_stood : Stood s n
  filter_stood = record { tree = plan_tree (filter f.filter_is.predicate f.filter_is.input); at = filter_stands }

  pub filter_here : {x : Subtree} → x.image.now ≡ s → x.number ≡ n → FilterHere x f.filter_is.predicate f.filter_is.input
  filter_here {x} i k = record { is = tree_is x _ i k filter_stands; sound = filter_sound }

  pub filter_tested : (zs : List ℤ) (ms : List ℕ)
      → test_predicate n f.filter_is.predicate f.filter_is.input zs ms ≡ test_focus n o zs ms
  unfolding test_focus test_plan
  filter_tested zs ms = rw (f.is, f.filter_is.is)

-- ---- accepted images

both : (x y : Found) → or_else x y ≡ None → (x ≡ None) × (y ≡ None)
unfolding or_else
both None y h = (refl, h)
both (Some r) y h = let z : ◌≡◌ {A = ℕ} 0 1 = cc in absurd (omega arith)

held : (b : Bool) (r : ℕ) → unless b r ≡ None → b ≡ true
unfolding unless
held true r h = refl
held false r h = let z : ◌≡◌ {A = ℕ} 0 1 = cc in absurd (omega arith)

-- no record is deeper than the limit
shallow : (f : Forest) (d b : ℕ) → lowest (λ d l cs. leb d max_depth) (λ d l cs. (d + 1, d + 1)) d d b f ≡ None → Deep f (max_depth + 1 - d)
unfolding lowest
shallow T.none d b h = tt
shallow (node l cs ns) d b h =
    let x = both (unless (leb d max_depth) b) _ h in
    let y = both (lowest (λ d l cs. leb d max_depth) (λ d l cs. (d + 1, d + 1)) (d + 1) (d + 1) (b + 1) cs) _ x.1 in
    let m : d ≤ max_depth = leb-true d max_depth (held (leb d max_depth) b x.0) in
    let e : max_depth + 1 - (d + 1) ≡ max_depth + 1 - d - 1 = omega arith in
    (omega arith, subst (Deep cs) e (shallow cs (d + 1) (b + 1) y.0), shallow ns d (b + 1 + size cs) y.1)

well_sound : (p : Plan) → WellFormed p → Sound p
unfolding too_deep
well_sound p w = record {
  deep = (shallow (alone (plan_tree p)) 1 0 w.depth).1;
  fits = w.integers;
  names = (well_formed_rules p w).0;
}

whole_of : (p : Plan) → WellFormed p → Whole (enc 0 (plan_tree p))
unfolding plan_in plan_from_links size_p
whole_of p w =
    let s = enc 0 (plan_tree p) in
    let back : plan_in s ≡ p = ap plan_from_links (same_tree p w) ∙ plan_at_back p w.integers in
    let at = stands_alone (plan_tree p) w.words w.records in
    record {
      sound = subst Sound (sym back) (well_sound p w);
      stands = subst (λ (q : Plan). At (plan_tree q) s 0) (sym back) (record { head = at.head; below = at.below });
      bytes = subst (λ (q : Plan). length s ≡ 32 * size_p q) (sym back) (tree_length 0 (plan_tree p));
    }

pub whole : (s : List ℕ) → Bytes s → check s ≡ verdict 0 0 → Whole s
whole s bytes h = let a = accepted s bytes h in subst Whole (sym a.1.image) (whole_of a.0 a.1.well)

-- ---- the whole test

module _ (s : List ℕ) (n : ℕ) (zs : List ℤ) (ms : List ℕ) where
  pub refused_image : (r : Refusal) → refused r ≡ check s → no_test (refused r) ≡ row_test_bytes s n zs ms
  unfolding row_test_bytes is_accepted choose
  refused_image r e = rw (← e, ne_eqb (number_of r) 0 (no_zero r))

  pub accepted_image : check s ≡ verdict 0 0 → test_focus n (focus n (plan_in s)) zs ms ≡ row_test_bytes s n zs ms
  unfolding row_test_bytes is_accepted choose
  accepted_image e = rw e
