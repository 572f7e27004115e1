-- Where a pass stands, in the code's numbers, and what it comes to from there.
use Rattle.std.specs.Prelude.{◌≡◌, Bool, List, ℕ, suc, ◌+◌, ◌-◌, ◌≤◌, ◌<◌, leb, Result, Ok, MatchResult}
use Rattle.std.proofs.Math.Option.{Option, none, some}
use Rattle.image.specs.Limits.{max_records}
use Rattle.image.specs.declared.refusals.Refusal.{Refusal}
use Rattle.image.specs.declared.refusals.Refusal.TheVariants.{TooLarge}
use Rattle.plan.specs.Lists.{choose}
use Rattle.plan.specs.Syntax.{Plan}
use Rattle.plan.specs.Measure.{size_p}
use Rattle.plan.specs.Trees.{bit_of}
use Rattle.acceptance.specs.Accepted.{WellFormed}
use Rattle.rewrite.specs.Pass.{PassAnswer, passed, pass_refused}
use Rattle.rewrite.specs.RewriteAt.{Focus, focus}
use Rattle.rewrite.specs.PassByRecords.{plan_from, visits}
use Rattle.push_down_rewrite.specs.declared.node.Rewritten.{Rewritten}
use Rattle.push_down_rewrite.specs.Outcomes.{Image, Outcome, Outcomes}
use Rattle.pass.specs.declared.visits.Walk as declared

-- the struct of the code
abbrev pub Walk : Type 0
Walk = declared.Walk

-- where a pass stands, or where it was refused
abbrev pub Walked : Type 0
Walked = Result Walk Refusal

-- record n, where it is one of so many
unfoldable pub within : ℕ → ℕ → Option ℕ
within n records = choose (leb records n) none (some n)

-- a plan stands at record n of q
pub record Planned (q : Plan) (n : ℕ) : Type 0 where
  pub spot : Focus
  pub there : focus n q ≡ some spot

-- r is the first record from `from` on that holds a plan, or behind the last
pub record Next (q : Plan) (from r : ℕ) : Type 0 where
  pub next : plan_from from q ≡ within r (size_p q)
  pub there : r < size_p q → Planned q r

-- one visit more can be counted
pub record Counted (w : Walk) : Type 0 where
  pub some_left : 0 < w.left
  pub most : w.visits + w.left ≤ 18446744073709551615
  pub raised : w.changed ≤ w.visits

-- what a pass comes to that stands at w, with the plan q
unfoldable pub rest : Walk → Plan → PassAnswer
rest w q = visits w.left (within w.next w.records) q w.visits w.changed

-- a pass stands at w, with the image of the plan q at the start of the bytes
pub record Stands (s : List ℕ) (w : Walk) (q : Plan) : Type 0 where
  pub well : WellFormed q
  pub image : Image s w.records q
  pub there : w.next < w.records → Planned q w.next
  pub most : w.visits + w.left ≤ 18446744073709551615
  pub raised : w.changed ≤ w.visits

-- with some plan
pub record Standing (s : List ℕ) (w : Walk) : Type 0 where
  pub plan : Plan
  pub stands : Stands s w plan

-- r is where a visit at w leaves the pass, which left q and raised the flag or not
pub record Continues (s : List ℕ) (w : Walk) (flag : Bool) (r : Walk) (q : Plan) : Type 0 where
  pub stands : Stands s r q
  pub comes : rest r q ≡ visits (w.left - 1) (plan_from (suc w.next) q) q (w.visits + 1) (w.changed + bit_of flag)

-- the rewrite of the next plan of a pass that stands at w came to r
pub record Came (s work : List ℕ) (w : Walk) (r : Outcome) (q : Plan) : Type 0 where
  pub stands : Stands s w q
  pub small : w.next < w.records
  pub some_left : 0 < w.left
  pub spot : Focus
  pub there : focus w.next q ≡ some spot
  pub outcomes : Outcomes work r q spot

-- to an answer, with some plan
pub record Comes (s work : List ℕ) (w : Walk) (r : Rewritten) : Type 0 where
  pub plan : Plan
  pub came : Came s work w (Ok r) plan

-- a pass that comes to x stands at w
pub record Going (s : List ℕ) (w : Walk) (x : PassAnswer) : Type 0 where
  pub plan : Plan
  pub stands : Stands s w plan
  pub comes : x ≡ rest w plan

-- the pass comes to x: it was refused at a record, which e names
pub record Refused (e : Refusal) (x : PassAnswer) : Type 0 where
  pub record_of : ℕ
  pub is : e ≡ TooLarge record_of
  pub refused : x ≡ pass_refused 11 record_of
  pub near : record_of < max_records

-- a pass that comes to x goes on, or was refused
abbrev pub Visited : List ℕ → Walked → PassAnswer → Type 0
Visited s r x = MatchResult r (λ w. Going s w x) (λ e. Refused e x)

-- the image of a well-formed plan is at the start of the bytes
pub record Begins (s : List ℕ) (records : ℕ) : Type 0 where
  pub plan : Plan
  pub well : WellFormed plan
  pub image : Image s records plan

-- a pass that comes to x ended at w, and its plan's image is at the start of the bytes
pub record Left (s : List ℕ) (w : Walk) (x : PassAnswer) : Type 0 where
  pub plan : Plan
  pub image : Image s w.records plan
  pub is : x ≡ passed w.visits w.changed (bit_of (leb w.records w.next)) plan

-- .. or was refused
abbrev pub Ends : List ℕ → Walked → PassAnswer → Type 0
Ends s r x = MatchResult r (λ w. Left s w x) (λ e. Refused e x)
