-- Name (6): a reference names one field, qualifier and name. In a schema, and in both inputs of a join together, no two fields share both,
-- and a name without qualifier is held by no other field; and there are no more fields than `max_fields`.
use Rattle.std.specs.Prelude.{ℕ, suc, Bool, true, not, ◌||◌, cond, List, [], ◌∷◌, ◌++◌, eqb, leb, length}
use Rattle.image.specs.Limits.{max_fields}
use Rattle.image.specs.Lowest.{Found, first_false}
use Rattle.plan.specs.Lists.{◌&◌, any}
use Rattle.plan.specs.Schema.{same, schema}
use Rattle.plan.specs.Syntax.{Name, nm, Expr, col, num, bool, nul, bin, neg, test, between, inlist, fn, Plan, scan, filter, project, join}
use Rattle.plan.specs.Syntax.{alias, union, distinct, sort, repartition, limit, aggregate, window}
use Rattle.acceptance.specs.Marks.{marks_in, Rules, marks_of}

-- ---- references

-- how many fields have the qualifier and the name
unfoldable pub holders : List Name → Name → ℕ
holders [] x = 0
holders (y ∷ s) x = cond (same y x) (suc (holders s x)) (holders s x)

-- a reference names one field
unfoldable pub one_field : List Name → Expr → Bool
one_field s (col x) = eqb (holders s x) 1
one_field s (num z) = true
one_field s (bool b) = true
one_field s (nul t) = true
one_field s (bin o a b) = true
one_field s (neg a) = true
one_field s (test t a) = true
one_field s (between n a l u) = true
one_field s (inlist n a xs) = true
one_field s (fn p q r xs) = true

-- ---- schemas

-- two fields of one name clash if they share the qualifier or one of them has none
abbrev pub clash : Name → Name → Bool
clash (nm q n) (nm r m) = eqb n m & (eqb q r || (eqb q 0 || eqb r 0))

abbrev pub distinct_names : List Name → Bool
distinct_names [] = true
distinct_names (x ∷ s) = not (any (clash x) s) & distinct_names s

-- no two fields clash, and there are not too many
unfoldable pub sound : List Name → Bool
sound s = distinct_names s & leb (length s) max_fields

-- both inputs of a join together, whatever its kind
abbrev pub sound_inputs : Plan → Bool
sound_inputs (scan t fs es) = true
sound_inputs (filter e p) = true
sound_inputs (project es p) = true
sound_inputs (join k l r on f) = sound (schema l ++ schema r)
sound_inputs (alias q p) = true
sound_inputs (union ps) = true
sound_inputs (distinct p) = true
sound_inputs (sort f ks p) = true
sound_inputs (repartition p) = true
sound_inputs (limit n k p) = true
sound_inputs (aggregate gs ags p) = true
sound_inputs (window ws p) = true

unfoldable pub sound_plan : Plan → Bool
sound_plan p = sound (schema p) & sound_inputs p

-- ---- the test

-- parts have no rule of their own
abbrev pub name_rules : Rules Bool
name_rules = record {
  plan = sound_plan;
  over = λ p. one_field (schema p);
  both = λ l r. one_field (schema l ++ schema r);
  field = λ f. true;
  entry = λ e. true;
  pair = λ l r k. true;
  key = λ k. true;
  agg = λ p a. true;
  win = λ p w. true;
}

-- the marks of an expression over a schema, and of a plan
abbrev pub names_in : List Name → Expr → List Bool
names_in s e = marks_in (one_field s) e

abbrev pub names_of : Plan → List Bool
names_of p = marks_of name_rules p

unfoldable pub bad_name : Plan → Found
bad_name p = first_false 0 (names_of p)
