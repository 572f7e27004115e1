-- Functions in a tree of records.
use Rattle.std.specs.Prelude.{Bool, true, false, ◌&&◌, ◌||◌, ℕ, eqb}
use Rattle.image.specs.Tree.{Label, Forest, none, node, Tree}
use Rattle.plan.specs.Kinds.{Function, number_e}
use Rattle.plan.specs.Syntax.{is_volatile}
use Rattle.conjuncts.specs.declared.volatility.Functions.{Functions}
use Rattle.conjuncts.specs.declared.volatility.Functions.TheVariants.{All, Volatile}

-- which functions, by their marks: the volatile ones alone, or all
abbrev pub marked : Functions → ℕ → Bool
marked Volatile = is_volatile
marked All = λ q. true

-- the record is a function whose marks pass the test
abbrev pub fn_here : (ℕ → Bool) → Label → Bool
fn_here c l = eqb l.kind (number_e Function) && c l.q

-- some record of a forest is
abbrev pub fn_any : (ℕ → Bool) → Forest → Bool
fn_any c none = false
fn_any c (node l cs ns) = (fn_here c l || fn_any c cs) || fn_any c ns

-- some record of a tree is
abbrev pub fn_in : (ℕ → Bool) → Tree → Bool
fn_in c t = fn_here c t.label || fn_any c t.below
