-- The row test (docs/REWRITE.md): the meaning of a named Filter's predicate on one row over its input's schema.
use Rattle.std.specs.Prelude.{ℕ, Bool, true, false, not, ◌||◌, cond, List, [], ◌∷◌, eqb, leb, ℤ, pos}
use Rattle.std.proofs.Math.Option.{Option, none, some}
use Rattle.std.specs.Int.Signed.{le_z}
use Rattle.plan.specs.Lists.{◌&◌, choose}
use Rattle.plan.specs.Syntax.{Value, null, int, truth, Expr, Plan, scan, filter, project, join, alias, union, distinct, sort, repartition}
use Rattle.plan.specs.Syntax.{limit, aggregate, window, boolean_type}
use Rattle.plan.specs.Schema.{schema}
use Rattle.plan.specs.Types.{types}
use Rattle.meaning.specs.Meaning.{World, Row, look, eval, is_t, is_f}
use Rattle.acceptance.specs.Check.{Verdict, verdict, check}
use Rattle.rewrite.specs.Utils.{any_fn}
use Rattle.rewrite.specs.RewriteAt.{Focus, focus}
use Rattle.rewrite.specs.OnBytes.{plan_in, is_accepted}

-- ---- the row: values lent as 64-bit numbers beside their marks

-- the mark of NULL; that of a value is 0
abbrev pub null_mark : ℕ
null_mark = 1

-- the lent values of one field: a mark above these, and a boolean that is not NULL and neither 0 nor 1, are no value
unfoldable pub cell_ok : ℕ → ℤ → ℕ → Bool
cell_ok ty z mark = leb mark null_mark & (eqb mark null_mark || not (eqb ty boolean_type) || (le_z (pos 0) z & le_z z (pos 1)))

-- as many values and marks as there are fields, each in order
unfoldable pub row_ok : List ℕ → List ℤ → List ℕ → Bool
row_ok [] [] [] = true
row_ok [] [] (m ∷ ms) = false
row_ok [] (z ∷ zs) ms = false
row_ok (t ∷ ts) [] ms = false
row_ok (t ∷ ts) (z ∷ zs) [] = false
row_ok (t ∷ ts) (z ∷ zs) (m ∷ ms) = cell_ok t z m & row_ok ts zs ms

-- a value under a NULL mark is not read; a boolean is TRUE unless it is 0
unfoldable pub cell : ℕ → ℤ → ℕ → Value
cell ty z mark = cond (eqb mark null_mark) null (cond (eqb ty boolean_type) (truth (not (le_z z (pos 0)))) (int z))

unfoldable pub lent : List ℕ → List ℤ → List ℕ → Row
lent [] zs ms = []
lent (t ∷ ts) [] ms = []
lent (t ∷ ts) (z ∷ zs) [] = []
lent (t ∷ ts) (z ∷ zs) (m ∷ ms) = cell t z m ∷ lent ts zs ms

-- ---- the test

-- functions are never asked, since a predicate that holds one is refused (10); which meaning they have makes no difference
abbrev pub no_functions : World
no_functions = record { fun = λ p q r vs. null; table = λ t. [] }

-- 0 FALSE, 1 TRUE, 2 UNKNOWN
unfoldable pub truth_number : Value → ℕ
truth_number v = cond (is_t v) 1 (cond (is_f v) 0 2)

pub record Tested : Type 0 where
  pub number : ℕ
  pub place : ℕ
  pub truth : ℕ

unfoldable pub no_test : Verdict → Tested
no_test v = record { number = v.number; place = v.place; truth = 0 }

-- a Filter's predicate on a row over its input's schema
unfoldable pub test_predicate : ℕ → Expr → Plan → List ℤ → List ℕ → Tested
test_predicate node e p values marks =
    choose (not (row_ok (types p) values marks)) (no_test (verdict 9 0))
    (choose (any_fn (λ q. true) e) (no_test (verdict 10 node))
    (record {
      number = 0;
      place = 0;
      truth = truth_number (eval no_functions (look (schema p) (lent (types p) values marks)) e);
    }))

-- what stands at the node: a Filter, or 8
unfoldable pub test_plan : ℕ → Plan → List ℤ → List ℕ → Tested
test_plan node (filter e p) values marks = test_predicate node e p values marks
test_plan node (scan t fs es) values marks = no_test (verdict 8 node)
test_plan node (project es p) values marks = no_test (verdict 8 node)
test_plan node (join k l r on f) values marks = no_test (verdict 8 node)
test_plan node (alias q p) values marks = no_test (verdict 8 node)
test_plan node (union ps) values marks = no_test (verdict 8 node)
test_plan node (distinct p) values marks = no_test (verdict 8 node)
test_plan node (sort f ks p) values marks = no_test (verdict 8 node)
test_plan node (repartition p) values marks = no_test (verdict 8 node)
test_plan node (limit n k p) values marks = no_test (verdict 8 node)
test_plan node (aggregate gs ags p) values marks = no_test (verdict 8 node)
test_plan node (window ws p) values marks = no_test (verdict 8 node)

unfoldable pub test_focus : ℕ → Option Focus → List ℤ → List ℕ → Tested
test_focus node none values marks = no_test (verdict 8 node)
test_focus node (some c) values marks = test_plan node c.plan values marks

-- push_down_filter_row_test: the image, the node, the values and the marks
unfoldable pub row_test_bytes : List ℕ → ℕ → List ℤ → List ℕ → Tested
row_test_bytes s node values marks =
    choose (is_accepted s) (test_focus node (focus node (plan_in s)) values marks) (no_test (check s))
