-- The row test asks no function: a predicate without functions means the same in every world.
use mathlib.Core.Path.{◌≡◌, refl, ap, ap₂}
use mathlib.Core.Bool.{Bool, true, false}
use mathlib.Core.List.{◌∷◌}
use Rattle.plan.proofs.Bools.{neither_left, neither_right}
use Rattle.plan.specs.Syntax.{truth, Expr, col, num, bool, nul, bin, neg, test, between, inlist, fn, Exprs, enil, econs}
use Rattle.meaning.specs.Meaning.{Env, World, eval, evals, binary, not3, tested, negate, in_list}
use Rattle.rewrite.specs.Utils.{any_fn, any_fn_all}

-- a function stands in the expression
abbrev calls : Expr → Bool
calls e = any_fn (λ q. true) e

module _ (W U : World) (ρ : Env) where
  mutual
    unfolding eval any_fn

    pub same_in_all_worlds : (e : Expr) → calls e ≡ false → eval W ρ e ≡ eval U ρ e
    same_in_all_worlds (col x) h = refl
    same_in_all_worlds (num z) h = refl
    same_in_all_worlds (bool b) h = refl
    same_in_all_worlds (nul t) h = refl
    same_in_all_worlds (bin o a b) h =
        ap₂ (binary o) (same_in_all_worlds a (neither_left _ _ h)) (same_in_all_worlds b (neither_right (calls a) _ h))
    same_in_all_worlds (neg a) h = ap not3 (same_in_all_worlds a h)
    same_in_all_worlds (test t a) h = ap (λ v. truth (tested t v)) (same_in_all_worlds a h)
    same_in_all_worlds (between n a l u) h =
        let k = neither_right (calls a) _ h in
        let ea : eval W ρ a ≡ eval U ρ a = same_in_all_worlds a (neither_left _ _ h) in
        let el : eval W ρ l ≡ eval U ρ l = same_in_all_worlds l (neither_left (calls l) _ k) in
        let eu : eval W ρ u ≡ eval U ρ u = same_in_all_worlds u (neither_right (calls l) _ k) in
        rw (ea, el, eu)
    same_in_all_worlds (inlist n a xs) h =
        ap₂ (λ v vs. negate n (in_list v vs)) (same_in_all_worlds a (neither_left _ _ h)) (all_same xs (neither_right (calls a) _ h))
    same_in_all_worlds (fn p q r xs) h = let impossible : true ≡ false = h in cc

    all_same : (xs : Exprs) → any_fn_all (λ q. true) xs ≡ false → evals W ρ xs ≡ evals U ρ xs
    all_same enil h = refl
    all_same (econs x xs) h = ap₂ ◌∷◌ (same_in_all_worlds x (neither_left _ _ h)) (all_same xs (neither_right (calls x) _ h))
