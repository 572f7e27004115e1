-- Lists of conjuncts none of which is an And: splitting what was joined gives them back.
use mathlib.Core.Path.{◌≡◌, refl, sym, ap, ap₂, ◌∙◌}
use mathlib.Core.Bool.{Bool, true, false}
use mathlib.Core.List.{List, [], ◌∷◌, ◌++◌, append_assoc, append-nil}
use mathlib.Core.Option.{Option, none, some}
use Prim.Native.Nat.{◌+◌, ◌≤◌}
use native.Mathlib.Nat.{le_refl}
use native.Mathlib.Omega.{arith}
use lib.ListN.{length, length-append}
use Rattle.plan.specs.Syntax.{Name, Expr, col, num, bool, nul, bin, and, or, cmp, neg, test, between, inlist, fn}
use Rattle.plan.specs.Values.{ValueRecord}
use Rattle.plan.specs.Lists.{anil, acons}
use Rattle.plan.proofs.Lists.{All-append}
use Rattle.rewrite.specs.Utils.{replace_cols, split_conjunction, conjoin, conjunction}
use Rattle.rewrite.specs.SimplifyPredicates.{Rel, bound_of, simplify_predicates}
use Rattle.rewrite.specs.ReorderPredicates.{reorder_predicates}
use Rattle.rewrite.specs.PushDownFilter.{merged}
use Rattle.rewrite.proofs.Simplify.{simplified_in}
use Rattle.rewrite.proofs.SimplifyFilter.{reorder_all}
use Rattle.rewrite.proofs.References.{unique_all}
use Rattle.push_down_base.specs.Plain.{Whole, Plain}

pub split_plain : (e : Expr) → Plain (split_conjunction e)
unfolding split_conjunction
split_plain (bin and a b) = All-append (split_plain a) (split_plain b)
split_plain (bin or a b) = acons (record { one = refl }) anil
split_plain (bin (cmp o) a b) = acons (record { one = refl }) anil
split_plain (col x) = acons (record { one = refl }) anil
split_plain (num z) = acons (record { one = refl }) anil
split_plain (bool b) = acons (record { one = refl }) anil
split_plain (nul t) = acons (record { one = refl }) anil
split_plain (neg a) = acons (record { one = refl }) anil
split_plain (test t a) = acons (record { one = refl }) anil
split_plain (between n a l u) = acons (record { one = refl }) anil
split_plain (inlist n a xs) = acons (record { one = refl }) anil
split_plain (fn p q r xs) = acons (record { one = refl }) anil

-- behind a first expression
pub split_conjoin : (e : Expr) {es : List Expr} → Plain es → split_conjunction (conjoin e es) ≡ split_conjunction e ++ es
unfolding conjoin split_conjunction
split_conjoin e anil = sym (append-nil (split_conjunction e))
split_conjoin e (acons {x = x} {xs = xs} h hs) =
    split_conjoin (bin and e x) hs ∙ append_assoc (split_conjunction e) (split_conjunction x) xs ∙ ap (λ l. split_conjunction e ++ (l ++ xs)) h.one

pub split_joined : (e : Expr) {es : List Expr} → Plain (e ∷ es) → split_conjunction (conjoin e es) ≡ e ∷ es
split_joined e {es} (acons h hs) = split_conjoin e hs ∙ ap (λ l. l ++ es) h.one

-- ---- the lists that the rewrite makes are plain

pub simplified_plain : {es : List Expr} → Plain es → Plain (simplify_predicates es)
unfolding bound_of split_conjunction
simplified_plain h =
    simplified_in Whole (λ x l. Unit {0}) (record { one = refl }) (λ f r x l k. bound_whole f r x l) (λ f r x l k. tt) h
  where
    bound_whole : (f : Bool) (r : Rel) (x : Name) (l : ValueRecord) → Whole (bound_of f r x l)
    bound_whole false r x l = record { one = refl }
    bound_whole true r x l = record { one = refl }

-- it is never empty
pub split_some : (e : Expr) → 1 ≤ length (split_conjunction e)
unfolding split_conjunction
split_some (bin and a b) = omega (arith, split_some a, length-append (split_conjunction a) (split_conjunction b))
split_some (bin or a b) = le_refl 1
split_some (bin (cmp o) a b) = le_refl 1
split_some (col x) = le_refl 1
split_some (num z) = le_refl 1
split_some (bool b) = le_refl 1
split_some (nul t) = le_refl 1
split_some (neg a) = le_refl 1
split_some (test t a) = le_refl 1
split_some (between n a l u) = le_refl 1
split_some (inlist n a xs) = le_refl 1
split_some (fn p q r xs) = le_refl 1

-- a column for a column splits nothing
pub renamed_parts : (g : Name → Name) (e : Expr) → length (split_conjunction (replace_cols (λ x. col (g x)) e)) ≡ length (split_conjunction e)
unfolding split_conjunction replace_cols
renamed_parts g (bin and a b) =
    length-append (split_conjunction (replace_cols (λ x. col (g x)) a)) (split_conjunction (replace_cols (λ x. col (g x)) b))
    ∙ ap₂ ◌+◌ (renamed_parts g a) (renamed_parts g b) ∙ sym (length-append (split_conjunction a) (split_conjunction b))
renamed_parts g (bin or a b) = refl
renamed_parts g (bin (cmp o) a b) = refl
renamed_parts g (col x) = refl
renamed_parts g (num z) = refl
renamed_parts g (bool b) = refl
renamed_parts g (nul t) = refl
renamed_parts g (neg a) = refl
renamed_parts g (test t a) = refl
renamed_parts g (between n a l u) = refl
renamed_parts g (inlist n a xs) = refl
renamed_parts g (fn p q r xs) = refl

-- ---- a predicate made of a list: its conjuncts are the list, and joined they are the predicate

pub record Joins (es : List Expr) (e : Expr) : Type 0 where
  pub whole : conjunction es ≡ some e
  pub parts : split_conjunction e ≡ es

pub joins : (x : Expr) (xs : List Expr) → Plain (x ∷ xs) → Joins (x ∷ xs) (conjoin x xs)
unfolding conjunction
joins x xs h = record { whole = refl; parts = split_joined x h }

-- the list is empty, or joins to a predicate
pub data Joined? (es : List Expr) : Option Expr → Type 0 where
  none_left : es ≡ [] → Joined? es none
  some_left : {e : Expr} → Joins es e → Joined? es (some e)

pub joined? : (es : List Expr) → Plain es → Joined? es (conjunction es)
unfolding conjunction
joined? [] h = none_left refl
joined? (x ∷ xs) h = some_left (joins x xs h)

pub merged_plain : (e b : Expr) → Plain (merged e b)
unfolding merged
merged_plain e b = unique_all (All-append (split_plain b) (split_plain e))

pub new_plain : (e : Expr) → Plain (reorder_predicates (simplify_predicates (split_conjunction e))).predicates
new_plain e = reorder_all (simplified_plain (split_plain e))
