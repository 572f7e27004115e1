-- A Filter's predicate, simplified and reordered, is TRUE where the predicate is, and reads no other column.
use mathlib.Core.Path.{◌≡◌, refl, ◌∙◌}
use mathlib.Core.Bool.{Bool, true, false, not, ◌||◌}
use mathlib.Core.List.{List, [], ◌∷◌}
use mathlib.Core.Option.{some}
use lib.ListN.{length}
use lib.Dec.{eqb}
use Rattle.plan.specs.Lists.{choose, keep, all, any, All, anil, acons}
use Rattle.plan.proofs.Lists.{and_intro, All-append, All-keep, all_append, all_parts}
use Rattle.plan.specs.Syntax.{Name, Expr, bin, and}
use Rattle.meaning.specs.Meaning.{World, Row, look, sat, sat?}
use Rattle.plan.specs.Schema.{has}
use Rattle.plan.specs.Columns.{on_cols}
use Rattle.rewrite.specs.Utils.{is_volatile_expr, split_conjunction, conjoin, conjunction}
use Rattle.rewrite.specs.SimplifyPredicates.{simplify_predicates}
use Rattle.rewrite.specs.ReorderPredicates.{Reordered, is_cheap_predicate, needs_reorder, unchanged, cheap_first, reorder_predicates}
use Rattle.rewrite.specs.PushDownFilter.{simplify_filter}
use Rattle.rewrite.proofs.Exprs.{all_split}
use Rattle.rewrite.proofs.Project.{split_cols}
use Rattle.rewrite.proofs.Join.{sat?_conj, Over}
use Rattle.acceptance.specs.NamesRule.{reads, reads?}
use Rattle.rewrite.proofs.Simplify.{simplified_true, simplified_over}

reorder_true : (t : Expr → Bool) (es : List Expr) → all t (reorder_predicates es).predicates ≡ all t es
unfolding reorder_predicates choose
reorder_true t es = go (any is_volatile_expr es) (needs_reorder es)
  where
    go : (b c : Bool) → all t (choose b (unchanged es) (choose c (cheap_first es) (unchanged es))).predicates ≡ all t es
    go true c = refl
    go false true = all_append t (keep is_cheap_predicate es) _ ∙ all_parts t is_cheap_predicate es
    go false false = refl

pub reorder_all : {P : Expr → Type 0} {es : List Expr} → All P es → All P (reorder_predicates es).predicates
unfolding reorder_predicates choose
reorder_all {P} {es} h = go (any is_volatile_expr es) (needs_reorder es)
  where
    go : (b c : Bool) → All P (choose b (unchanged es) (choose c (cheap_first es) (unchanged es))).predicates
    go true c = h
    go false true = All-append (All-keep _ h) (All-keep _ h)
    go false false = h

pub conj_reads : (s : List Name) (e : Expr) (es : List Expr) → reads s e ≡ true → Over s es → reads s (conjoin e es) ≡ true
unfolding conjoin on_cols
conj_reads s e [] h anil = h
conj_reads s e (x ∷ xs) h (acons k ks) = conj_reads s (bin and e x) xs (and_intro h k) ks

pub conjunction_reads : (s : List Name) {es : List Expr} → Over s es → reads? s (conjunction es) ≡ true
unfolding conjunction
conjunction_reads s anil = refl
conjunction_reads s (acons h hs) = conj_reads s _ _ h hs

module _ (e : Expr) where
  pub new : Reordered
  new = reorder_predicates (simplify_predicates (split_conjunction e))

  pub simplify_filter_true : (W : World) (s : List Name) (r : Row) → sat? W s (simplify_filter e) r ≡ sat W s e r
  unfolding simplify_filter choose new
  simplify_filter_true W s r = go (not (eqb (length (split_conjunction e)) (length new.predicates)) || new.changed)
    where
      go : (b : Bool) → sat? W s (choose b (conjunction new.predicates) (some e)) r ≡ sat W s e r
      go true = sat?_conj W s new.predicates r ∙ reorder_true (λ x. sat W s x r) (simplify_predicates (split_conjunction e))
          ∙ simplified_true W (look s r) (split_conjunction e) ∙ all_split W (look s r) e
      go false = refl

  pub simplify_filter_reads : (s : List Name) → reads s e ≡ true → reads? s (simplify_filter e) ≡ true
  unfolding simplify_filter choose new
  simplify_filter_reads s h = go (not (eqb (length (split_conjunction e)) (length new.predicates)) || new.changed)
    where
      go : (b : Bool) → reads? s (choose b (conjunction new.predicates) (some e)) ≡ true
      go true = conjunction_reads s (reorder_all (simplified_over (has s) (split_cols (has s) e h)))
      go false = h
