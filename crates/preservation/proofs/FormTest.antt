-- The form of a plan's tree, as a test on plans: the runs that may not be empty are not, and no list is too long.
use Prim.Native.Nat.{ℕ, suc, ◌+◌, max as larger}
use native.Mathlib.Omega.{arith}
use mathlib.Core.Path.{◌≡◌, refl, sym, ap, ap₂, ◌∙◌}
use mathlib.Core.Logic.Iff
use mathlib.Core.Logic.{◌↔◌}
use mathlib.Core.Bool.{Bool, true, false, not}
use mathlib.Core.List.{List, [], ◌∷◌}
use mathlib.Core.Option as O
use mathlib.Core.Option.{Option, some}
use lib.Dec.{leb}
use lib.ListN.{length}
use borrow.Author.Tests.{leb-true, leb-false, le-leb, lt-leb}
use Rattle.image.specs.Tree.{Label, Forest, none, node}
use Rattle.image.specs.Limits.{max_list}
use Rattle.std.specs.Prelude.{None}
use Rattle.image.specs.Lowest.{or_else, unless, alone}
use Rattle.image.proofs.Lowest.{or_second, Passes, passes, finds_nothing}
use Rattle.plan.specs.Lists.{◌&◌}
use Rattle.plan.proofs.Lists.{and_assoc, and_true, true_and, AndSort}
use Rattle.plan.specs.Kinds as K
use Rattle.plan.specs.Kinds.{expr, plan, what, what_of, among, expr_w, plan_w, is_expr, is_plan, is_kind}
use Rattle.plan.specs.Form.{end, one, past, many, perhaps, children_p, conjuncts, exprs_in, form_ok, bad_form}
use Rattle.plan.specs.Form as Form
use Rattle.plan.specs.Syntax.{Name, Expr, Field, Entry, Pair, Key, AggEntry, WinEntry, Plan, scan, filter, project, join, alias, union}
use Rattle.plan.specs.Syntax.{distinct, sort, repartition, limit, aggregate, window, Plans, pnil, pcons}
use Rattle.plan.specs.Trees.{column_label, label_e, kids_e, each, nothing_below, field_label, entry_label, entry_kids, pair_label, pair_kids}
use Rattle.plan.specs.Trees.{key_label, key_kids, agg_label, agg_kids, win_label, win_kids, filter_kids, label_p, kids_p, forest_p, plan_tree}
use Rattle.plan.specs.Read.{is_field, is_entry, is_pair, is_key, is_agg, is_win}
use Rattle.plan.proofs.Written.{Stops, past_each, no_part, no_part_e}
use Rattle.rewrite.specs.Utils.{split_conjunction, split_conjunction?}
use Rattle.preservation.proofs.Everywhere.{count_p, good, good?, good_entry, good_pair, good_key, good_agg, good_win, everywhere}
use Rattle.preservation.proofs.Everywhere.{everywhere_all}
use Rattle.rewrite.specs.Limits.{list_p, list_ps}
use Rattle.preservation.proofs.Tells.{Tells, tells_nothing, three}
use Rattle.preservation.proofs.Rules.{passed, beside, sound, sound_each}
use Rattle.preservation.proofs.ExprForm.{Runs, is_expr_lem, form_q_is, one_expr, form_e, last_e, conjuncts_none, conjuncts_split}

-- ---- parts

filter_form : (e : Expr) → form_ok (label_e e) (kids_e e) & sound form_ok (kids_e e) ≡ good Runs e
filter_form e = ap (form_ok (label_e e) (kids_e e) &◌) (sym (and_true _)) ∙ form_e e true ∙ and_true _

own_form : (f : Option Expr) → sound form_ok (filter_kids f) ≡ good? Runs f
unfolding sound
own_form O.none = refl
own_form (some e) = last_e e

field_form : (f : Field) → form_ok (field_label f) none & sound form_ok none ≡ true
unfolding sound form_ok what_of among end ◌&◌
field_form f = refl

column_form : (x : Name) → form_ok (column_label x) none & sound form_ok none ≡ true
unfolding sound form_ok what_of among end ◌&◌
column_form x = refl

entry_form : (e : Entry) → form_ok (entry_label e) (entry_kids e) & sound form_ok (entry_kids e) ≡ good_entry Runs e
unfolding what_of among end
entry_form e = ap₂ ◌&◌ (form_q_is K.EntryPart (entry_label e) _ refl ∙ one_expr _ e.expr _) (last_e e.expr)

pair_form : (k : Pair) → form_ok (pair_label k) (pair_kids k) & sound form_ok (pair_kids k) ≡ good_pair Runs k
unfolding what_of among end sound
pair_form k =
    ap₂ ◌&◌ (form_q_is K.PairPart (pair_label k) _ refl ∙ one_expr _ k.lhs _ ∙ one_expr _ k.rhs _)
    (beside _ (form_e k.lhs _) (last_e k.rhs))

key_form : (k : Key) → form_ok (key_label k) (key_kids k) & sound form_ok (key_kids k) ≡ good_key Runs k
unfolding what_of among end
key_form k = ap₂ ◌&◌ (form_q_is K.KeyPart (key_label k) _ refl ∙ one_expr _ k.expr _) (last_e k.expr)

agg_form : (a : AggEntry) → form_ok (agg_label a) (agg_kids a) & sound form_ok (agg_kids a) ≡ good_agg Runs a
unfolding what_of among end
agg_form a = ap₂ ◌&◌ (form_q_is K.AggPart (agg_label a) _ refl ∙ one_expr _ a.expr _) (last_e a.expr)

past_columns : (xs : List Name) → past (is_kind (expr K.Column)) (each column_label nothing_below xs none) ≡ none
past_columns xs = past_each (is_kind (expr K.Column)) column_label nothing_below (λ x. refl) xs none tt

win_form : (w : WinEntry) → form_ok (win_label w) (win_kids w) & sound form_ok (win_kids w) ≡ good_win Runs w
unfolding what_of among end sound
win_form w =
    ap₂ ◌&◌ (form_q_is K.WinPart (win_label w) _ refl ∙ one_expr _ w.expr _ ∙ ap end (past_columns w.parts))
    (beside _ (form_e w.expr _) (sound_each form_ok column_label nothing_below _ column_form w.parts none ∙ and_true _))

-- ---- the children of a plan

abbrev kind_p : Plan → K.PlanKind
kind_p (scan t fs es) = K.TableScan
kind_p (filter e p) = K.Filter
kind_p (project es p) = K.Projection
kind_p (join k l r on f) = K.Join
kind_p (alias q p) = K.SubqueryAlias
kind_p (union ps) = K.Union
kind_p (distinct p) = K.Distinct
kind_p (sort f ks p) = K.Sort
kind_p (repartition p) = K.Repartition
kind_p (limit n k p) = K.Limit
kind_p (aggregate gs ags p) = K.Aggregate
kind_p (window ws p) = K.Window

what_p : (p : Plan) → what (label_p p) ≡ plan (kind_p p)
unfolding label_p what_of among
what_p (scan t fs es) = refl
what_p (filter e p) = refl
what_p (project es p) = refl
what_p (join k l r on f) = refl
what_p (alias q p) = refl
what_p (union ps) = refl
what_p (distinct p) = refl
what_p (sort f ks p) = refl
what_p (repartition p) = refl
what_p (limit n k p) = refl
what_p (aggregate gs ags p) = refl
what_p (window ws p) = refl

is_plan_lem : (p : Plan) → is_plan (label_p p) ≡ true
is_plan_lem p = ap plan_w (what_p p)

form_p_is : (p : Plan) (cs : Forest) → form_ok (label_p p) cs ≡ children_p (kind_p p) cs & leb (Form.list_of (kind_p p) cs) max_list
unfolding form_ok
form_p_is p cs = rw (what_p p)

-- the plan in front of other trees
abbrev over : Plan → Forest → Forest
over p ns = node (label_p p) (kids_p p) ns

one_plan : (rest : Forest → Bool) (p : Plan) (ns : Forest) → one is_plan rest (over p ns) ≡ rest ns
unfolding one
one_plan rest p ns = passed (is_plan_lem p)

past_plans : (ps : Plans) → past is_plan (forest_p ps) ≡ none
unfolding past forest_p
past_plans pnil = refl
past_plans (pcons p ps) = rw (is_plan_lem p) (past_plans ps)

-- a run of parts and an input
module _ {A : Type 0} (is : Label → Bool) (l : A → Label) (k : A → Forest) (hit : (x : A) → is (l x) ≡ true) (p : Plan)
    (stop : is (label_p p) ≡ false) where
  run_input : (xs : List A) → many is (one is_plan end) (each l k xs (over p none)) ≡ true
  unfolding end
  run_input xs = ap (one is_plan end) (past_each is l k hit xs (over p none) stop) ∙ one_plan end p none

  some_input : (xs : List A) → one is (many is (one is_plan end)) (each l k xs (over p none)) ≡ leb 1 (length xs)
  unfolding one each ◌&◌
  some_input [] = rw stop
  some_input (x ∷ xs) = rw (hit x) (run_input xs ∙ sym (le-leb 1 (suc (length xs)) (omega arith)))

filters_stop : (es : List Expr) → Stops is_field (each label_e kids_e es none)
unfolding each
filters_stop [] = tt
filters_stop (e ∷ es) = no_part_e e 48 (omega arith)

own_stops : (f : Option Expr) → Stops is_pair (filter_kids f)
own_stops O.none = tt
own_stops (some e) = no_part_e e 50 (omega arith)

own_child : (f : Option Expr) → perhaps is_expr (filter_kids f) ≡ true
unfolding perhaps end
own_child O.none = refl
own_child (some e) = passed (is_expr_lem e)

two_inputs : (ps : Plans) → one is_plan (one is_plan (many is_plan end)) (forest_p ps) ≡ leb 2 (count_p ps)
unfolding one end forest_p ◌&◌
two_inputs pnil = refl
two_inputs (pcons p pnil) = rw (is_plan_lem p)
two_inputs (pcons p (pcons q ps)) = rw (is_plan_lem p, is_plan_lem q, past_plans ps) (sym (le-leb 2 (suc (suc (count_p ps))) (omega arith)))

aggs_stop : (ags : List AggEntry) (p : Plan) → Stops is_entry (each agg_label agg_kids ags (over p none))
unfolding each
aggs_stop [] p = no_part p 49 (omega arith)
aggs_stop (a ∷ ags) p = refl

-- an Aggregate that has no entry of either sort is its input alone
some_entry : (gs : List Entry) (ags : List AggEntry) (p : Plan)
    → not (one is_plan end (each entry_label entry_kids gs (each agg_label agg_kids ags (over p none)))) ≡ leb 1 (length gs + length ags)
unfolding one end each what_of among ◌&◌
some_entry [] [] p = rw (is_plan_lem p)
some_entry [] (a ∷ ags) p = sym (le-leb 1 (0 + suc (length ags)) (omega arith))
some_entry (g ∷ gs) ags p = sym (le-leb 1 (suc (length gs) + length ags) (omega arith))

-- the runs of a plan that may not be empty
abbrev enough_p : Plan → Bool
enough_p (scan t fs es) = true
enough_p (filter e p) = true
enough_p (project es p) = leb 1 (length es)
enough_p (join k l r on f) = true
enough_p (alias q p) = true
enough_p (union ps) = leb 2 (count_p ps)
enough_p (distinct p) = true
enough_p (sort f ks p) = true
enough_p (repartition p) = true
enough_p (limit n k p) = true
enough_p (aggregate gs ags p) = leb 1 (length gs + length ags)
enough_p (window ws p) = leb 1 (length ws)

children_p_lem : (p : Plan) → children_p (kind_p p) (kids_p p) ≡ enough_p p
unfolding kids_p end
children_p_lem (scan t fs es) =
    ap (λ f. end (past is_expr f)) (past_each is_field field_label nothing_below (λ f. refl) fs (each label_e kids_e es none) (filters_stop es))
    ∙ ap end (past_each is_expr label_e kids_e is_expr_lem es none tt)
children_p_lem (filter e p) = one_expr _ e _ ∙ one_plan _ p _
children_p_lem (project es p) = some_input is_entry entry_label entry_kids (λ e. refl) p (no_part p 49 (omega arith)) es
children_p_lem (join k l r on f) =
    one_plan _ l _ ∙ one_plan _ r _ ∙ ap (perhaps is_expr) (past_each is_pair pair_label pair_kids (λ k. refl) on (filter_kids f) (own_stops f))
    ∙ own_child f
children_p_lem (alias q p) = one_plan _ p _
children_p_lem (union ps) = two_inputs ps
children_p_lem (distinct p) = one_plan _ p _
children_p_lem (sort f ks p) = run_input is_key key_label key_kids (λ k. refl) p (no_part p 51 (omega arith)) ks
children_p_lem (repartition p) = one_plan _ p _
children_p_lem (limit n k p) = one_plan _ p _
children_p_lem (aggregate gs ags p) =
    ap (◌& not (one is_plan end (each entry_label entry_kids gs (each agg_label agg_kids ags (over p none)))))
    (ap (many is_agg (one is_plan end))
    (past_each is_entry entry_label entry_kids (λ e. refl) gs (each agg_label agg_kids ags (over p none)) (aggs_stop ags p))
    ∙ run_input is_agg agg_label agg_kids (λ a. refl) p (no_part p 52 (omega arith)) ags)
    ∙ true_and _ ∙ some_entry gs ags p
children_p_lem (window ws p) = some_input is_win win_label win_kids (λ w. refl) p (no_part p 53 (omega arith)) ws

-- ---- the list of a plan

plan_apart : (p : Plan) (ns : Forest) → conjuncts (over p ns) ≡ conjuncts ns
unfolding conjuncts
plan_apart p ns = rw (ap expr_w (what_p p)) (omega arith)

pairs_apart : (on : List Pair) (ns : Forest) → conjuncts (each pair_label pair_kids on ns) ≡ conjuncts ns
unfolding conjuncts each what_of among
pairs_apart [] ns = refl
pairs_apart (k ∷ on) ns = let ih = pairs_apart on ns in omega arith

own_conjuncts : (f : Option Expr) → conjuncts (filter_kids f) ≡ length (split_conjunction? f)
unfolding split_conjunction?
own_conjuncts O.none = conjuncts_none
own_conjuncts (some e) = conjuncts_split e none ∙ rw conjuncts_none (omega arith)

fields_apart : (fs : List Field) (ns : Forest) → exprs_in (each field_label nothing_below fs ns) ≡ exprs_in ns
unfolding exprs_in each what_of among
fields_apart [] ns = refl
fields_apart (f ∷ fs) ns = let ih = fields_apart fs ns in omega arith

filters_in : (es : List Expr) → exprs_in (each label_e kids_e es none) ≡ length es
unfolding exprs_in each
filters_in [] = refl
filters_in (e ∷ es) = rw (is_expr_lem e, filters_in es) (omega arith)

abbrev own_list : Plan → ℕ
own_list (scan t fs es) = length es
own_list (filter e p) = length (split_conjunction e)
own_list (project es p) = 0
own_list (join k l r on f) = length (split_conjunction? f)
own_list (alias q p) = 0
own_list (union ps) = 0
own_list (distinct p) = 0
own_list (sort f ks p) = 0
own_list (repartition p) = 0
own_list (limit n k p) = 0
own_list (aggregate gs ags p) = 0
own_list (window ws p) = 0

list_is : (p : Plan) → Form.list_of (kind_p p) (kids_p p) ≡ own_list p
unfolding kids_p
list_is (scan t fs es) = fields_apart fs _ ∙ filters_in es
list_is (filter e p) = conjuncts_split e _ ∙ rw (plan_apart p, conjuncts_none) (omega arith)
list_is (project es p) = refl
list_is (join k l r on f) = plan_apart l _ ∙ plan_apart r _ ∙ pairs_apart on _ ∙ own_conjuncts f
list_is (alias q p) = refl
list_is (union ps) = refl
list_is (distinct p) = refl
list_is (sort f ks p) = refl
list_is (repartition p) = refl
list_is (limit n k p) = refl
list_is (aggregate gs ags p) = refl
list_is (window ws p) = refl

form_node_p : (p : Plan) → form_ok (label_p p) (kids_p p) ≡ enough_p p & leb (own_list p) max_list
form_node_p p = form_p_is p (kids_p p) ∙ ap₂ (λ b n. b & leb n max_list) (children_p_lem p) (list_is p)

-- two lists are short if the longer is
larger_short : (a b m : ℕ) → leb a m & leb b m ≡ leb (larger a b) m
unfolding ◌&◌
larger_short a b m = go (leb a m) (leb b m) refl refl
  where
    go : (c d : Bool) → leb a m ≡ c → leb b m ≡ d → c & d ≡ leb (larger a b) m
    go true true h k = sym (le-leb (larger a b) m (omega (arith, leb-true a m h, leb-true b m k)))
    go true false h k = sym (lt-leb (larger a b) m (omega (arith, leb-false b m k)))
    go false d h k = sym (lt-leb (larger a b) m (omega (arith, leb-false a m h)))

-- ---- all records of a plan

shuffled : (a b c d : Bool) → (a & b) & (c & d) ≡ (a & c) & (b & d)
shuffled a b c d = simp AndSort

join_shuffled : (a b c d e : Bool) → (a & b) & ((c & d) & e) ≡ (a & (c & e)) & (b & d)
join_shuffled a b c d e = simp AndSort

-- a record's runs and list, and those below it, as the runs and the lists of the whole
whole : {f k w m : Bool} (a b c d x : Bool) → f ≡ a & b → k ≡ c & d → a & c ≡ w → b & d ≡ m → f & (k & x) ≡ (w & m) & x
whole a b c d x g h i j =
    ap₂ (λ y z. y & (z & x)) g h ∙ sym (and_assoc (a & b) (c & d) x) ∙ ap (◌& x) (shuffled a b c d ∙ ap₂ ◌&◌ i j)

mutual
  unfolding sound everywhere kids_p forest_p list_p

  form_p : (p : Plan) (x : Bool) → form_ok (label_p p) (kids_p p) & (sound form_ok (kids_p p) & x) ≡ (everywhere Runs p & leb (list_p p) max_list) & x
  form_p (scan t fs es) x =
      whole _ _ _ true x (form_node_p (scan t fs es))
      (beside _ (sound_each form_ok field_label nothing_below _ field_form fs _) (sound_each form_ok label_e kids_e _ filter_form es none ∙ and_true _)
      ∙ sym (and_true _))
      refl (and_true _)
  form_p (filter e p) x =
      whole _ _ _ _ x (form_node_p (filter e p)) (beside _ (form_e e _) (form_p p true ∙ and_true _) ∙ sym (and_assoc _ _ _)) refl
      (larger_short (length (split_conjunction e)) (list_p p) max_list)
  form_p (project es p) x =
      whole _ _ _ _ x (form_node_p (project es p))
      (beside _ (sound_each form_ok entry_label entry_kids _ entry_form es _) (form_p p true ∙ and_true _) ∙ sym (and_assoc _ _ _))
      (sym (true_and _)) (true_and _)
  form_p (join k l r on f) x =
      whole _ _ _ _ x (form_node_p (join k l r on f))
      (beside _ (form_p l _) (beside _ (form_p r _) (beside _ (sound_each form_ok pair_label pair_kids _ pair_form on _) (own_form f)))
      ∙ join_shuffled _ _ _ _ _)
      refl
      (ap (leb (length (split_conjunction? f)) max_list &◌) (larger_short (list_p l) (list_p r) max_list)
      ∙ larger_short (length (split_conjunction? f)) (larger (list_p l) (list_p r)) max_list)
  form_p (alias q p) x = whole _ _ _ _ x (form_node_p (alias q p)) (form_p p true ∙ and_true _) refl (true_and _)
  form_p (union ps) x = whole _ _ _ _ x (form_node_p (union ps)) (form_ps ps) (sym (true_and _)) (true_and _)
  form_p (distinct p) x = whole _ _ _ _ x (form_node_p (distinct p)) (form_p p true ∙ and_true _) refl (true_and _)
  form_p (sort f ks p) x =
      whole _ _ _ _ x (form_node_p (sort f ks p))
      (beside _ (sound_each form_ok key_label key_kids _ key_form ks _) (form_p p true ∙ and_true _) ∙ sym (and_assoc _ _ _)) refl (true_and _)
  form_p (repartition p) x = whole _ _ _ _ x (form_node_p (repartition p)) (form_p p true ∙ and_true _) refl (true_and _)
  form_p (limit n k p) x = whole _ _ _ _ x (form_node_p (limit n k p)) (form_p p true ∙ and_true _) refl (true_and _)
  form_p (aggregate gs ags p) x =
      whole _ _ _ _ x (form_node_p (aggregate gs ags p))
      (beside _ (sound_each form_ok entry_label entry_kids _ entry_form gs _)
      (beside _ (sound_each form_ok agg_label agg_kids _ agg_form ags _) (form_p p true ∙ and_true _) ∙ sym (and_assoc _ _ _))
      ∙ sym (and_assoc _ _ _))
      (sym (true_and _)) (true_and _)
  form_p (window ws p) x =
      whole _ _ _ _ x (form_node_p (window ws p))
      (beside _ (sound_each form_ok win_label win_kids _ win_form ws _) (form_p p true ∙ and_true _) ∙ sym (and_assoc _ _ _))
      (sym (true_and _)) (true_and _)

  form_ps : (ps : Plans) → sound form_ok (forest_p ps) ≡ everywhere_all Runs ps & leb (list_ps ps) max_list
  form_ps pnil = sym (true_and true)
  form_ps (pcons p ps) =
      beside _ (form_p p _) (form_ps ps) ∙ shuffled _ _ _ _ ∙ ap (everywhere_all Runs (pcons p ps) &◌) (larger_short (list_p p) (list_ps ps) max_list)

-- ---- the test of form

unfoldable pub formed : Plan → Bool
formed p = everywhere Runs p

-- the records that the search of test 5 passes
passing : (f : Forest) → Tells (sound form_ok f) (Passes {C = Unit {0}} (λ c l cs. form_ok l cs) (λ c l cs. (c, c)) tt tt f)
unfolding sound
passing none = tells_nothing
passing (node l cs ns) = three Iff.rfl (passing cs) (passing ns)

form_tree : (p : Plan) → sound form_ok (alone (plan_tree p)) ≡ formed p & leb (list_p p) max_list
unfolding sound formed
form_tree p = form_p p true ∙ and_true _

-- the law of the test
pub formed_law : (p : Plan) → (bad_form (plan_tree p) ≡ None) ↔ (formed p & leb (list_p p) max_list ≡ true)
unfolding bad_form or_else unless
formed_law p = (
  (λ h. sym (form_tree p) ∙ (passing (alone (plan_tree p))).1 (passes _ _ tt tt 0 (alone (plan_tree p)) (or_second (unless (is_plan (label_p p)) 0) _ h))),
  (λ h. rw (is_plan_lem p) (finds_nothing _ _ tt tt 0 (alone (plan_tree p)) ((passing (alone (plan_tree p))).0 (form_tree p ∙ h)))),
)
