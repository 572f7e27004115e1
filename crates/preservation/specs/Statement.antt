-- Demand 3: no list of calls of rewrite, at any nodes, in any order, of any length, changes the rows of the root.
-- In plain words: docs/REWRITE.md, The three demands. The proof is proofs/Demand3.antt.
use Rattle.std.specs.Prelude.{ℕ, ◌*◌, ◌≡◌, List, [], ◌∷◌, eqb, take}
use Rattle.image.specs.Limits.{record_bytes}
use Rattle.image.specs.Word.{Bytes}
use Rattle.plan.specs.Lists.{choose}
use Rattle.meaning.specs.Meaning.{World, Row, rows}
use Rattle.meaning.specs.Tables.{TablesFit, FunctionsFit}
use Rattle.acceptance.specs.Check.{verdict, check}
use Rattle.rewrite.specs.OnBytes.{plan_in, Rewritten, rewrite_bytes, Passed, pass_bytes}
use Rattle.preservation.specs.Volatile.{NoVolatile}

-- ---- a list of steps

-- a step turns the bytes of an image into those of the next
abbrev pub Step : Type 0
Step = List ℕ → List ℕ

-- the next call gets just the bytes that the one before left
unfoldable pub after : List Step → List ℕ → List ℕ
after [] s = s
after (step ∷ steps) s = after steps (step s)

-- ---- images

-- an image is accepted if it meets none of the tests 1 to 7, at the places Buffer to Type
pub record Image (s : List ℕ) : Type 0 where
  pub bytes : Bytes s
  pub accepted : check s ≡ verdict 0 0

-- the rows of the root (docs/MEANING.md)
abbrev pub rows_of : World → List ℕ → List Row
rows_of W s = rows W (plan_in s)

-- the tables of a world fit the scans of an image, and its functions give a value of their type or NULL
pub record Fits (W : World) (s : List ℕ) : Type 0 where
  pub tables : TablesFit W (plan_in s)
  pub functions : FunctionsFit W

-- the image t may stand where s stood: it is accepted, no volatile function has come in, and the rows are the same: as many, and at each
-- place the same value or NULL in every field
pub record Preserved (s t : List ℕ) : Type 0 where
  pub image : Image t
  pub not_volatile : NoVolatile (plan_in t)
  pub fitting : (W : World) → Fits W s → Fits W t
  pub same_rows : (W : World) → Fits W s → rows_of W t ≡ rows_of W s

-- a step that does so with every image without volatile functions
abbrev pub Preserves : Step → Type 0
Preserves step = (s : List ℕ) → Image s → NoVolatile (plan_in s) → Preserved s (step s)

-- ---- calls of rewrite

-- each call has any record number and any output length
pub record Call : Type 0 where
  pub node : ℕ
  pub room : ℕ

-- a granted call leaves its answer, without the zeros behind it, a refused one the image it got
unfoldable pub leaves : ℕ → ℕ → List ℕ → List ℕ → List ℕ
leaves number records output got = choose (eqb number 0) (take (record_bytes * records) output) got

-- what a call of rewrite leaves
unfoldable pub left_by : List ℕ → Rewritten → List ℕ
left_by s r = leaves r.number r.records r.output s

unfoldable pub call : Call → Step
call c s = left_by s (rewrite_bytes s c.node c.room)

-- the calls of a list, one after another
unfoldable pub calls : List Call → List Step
calls [] = []
calls (c ∷ cs) = call c ∷ calls cs

-- Demand 3, as a type; the list may be empty. What is left after each call of a list is what is left after the list of the calls so
-- far, which is a list of calls too.
abbrev pub Demand3 : Type 0
Demand3 = (cs : List Call) (s : List ℕ) → Image s → NoVolatile (plan_in s) → Preserved s (after (calls cs) s)

-- ---- a pass is such a step too

unfoldable pub left_by_pass : List ℕ → Passed → List ℕ
left_by_pass s r = leaves r.number r.records r.output s

-- a pass with a budget and an output length
unfoldable pub pass_through : ℕ → ℕ → Step
pass_through budget room s = left_by_pass s (pass_bytes s budget room)
