-- What a rewrite at a record comes to.
use Rattle.std.specs.Prelude.{◌≡◌, List, ℕ, ◌*◌, length, take, Result, is_ok, IfOk, IsSomeAnd, MatchOption}
use Rattle.image.specs.Limits.{work_bytes}
use Rattle.plan.specs.Lists.{◌&◌, all}
use Rattle.plan.specs.Syntax.{Plan}
use Rattle.plan.specs.Measure.{size_p}
use Rattle.rewrite.specs.Limits.{within_limits}
use Rattle.rewrite.specs.OnBytes.{image_of}
use Rattle.rewrite.specs.PushDownFilter.{Transformed, rewrite}
use Rattle.rewrite.specs.RewriteAt.{Focus, result_fits}
use Rattle.answers.specs.declared.splicing.Spot.{Spot}
use Rattle.answers.specs.Splicing.{Before}
use Rattle.push_down_base.specs.Arms.{Written, Answers}
use Rattle.push_down_merge.specs.Merging.{Inside}
use Rattle.push_down_merge.specs.declared.filter.TooLarge.{TooLarge}
use Rattle.push_down_rewrite.specs.declared.node.Rewritten.{Rewritten}

-- what the code comes to
abbrev pub Outcome : Type 0
Outcome = Result Rewritten TooLarge

-- the answer t was written in the place of what c found at record `node` of the whole, w
pub record Replaces (s levels work : List ℕ) (spot : Spot) (new : Written) (node : ℕ) (w : Plan) (c : Focus) (t : Transformed)
    : Type 0 where
  pub inside : Inside s node w c
  pub before : List ℕ
  pub long : length before ≡ work_bytes
  pub begun : Before before levels w node c.plan spot
  pub answers : Answers before work node spot.level new t

-- some answer was
pub record Replaced (s levels work : List ℕ) (spot : Spot) (new : Written) : Type 0 where
  pub node : ℕ
  pub whole : Plan
  pub place : Focus
  pub answer : Transformed
  pub replaces : Replaces s levels work spot new node whole place answer

-- the image of q is at the start of `work`, of so many records
pub record Image (work : List ℕ) (records : ℕ) (q : Plan) : Type 0 where
  pub count : records ≡ size_p q
  pub bytes : take (32 * records) work ≡ image_of q

-- the answer t was written in the place of what c found, if it and the plans ms on the way to it are within the limits there
pub record Finishes (work : List ℕ) (r : Outcome) (c : Focus) (ms : List Plan) (t : Transformed) : Type 0 where
  pub fit : is_ok r ≡ (within_limits (c.back t.plan) & all (λ m. within_limits (c.back m)) ms)
  pub flag : IfOk r (λ o. o.flag ≡ t.transformed)
  pub image : IfOk r (λ o. IsSomeAnd o.image (λ n. Image work n (c.back t.plan)))

-- the whole with the rewrite of what c found
abbrev pub answer : Focus → Plan
answer c = c.back (rewrite c.plan).plan

-- test 11, the flag, and the image of the answer, which is written or is the one that was read
pub record Outcomes (work : List ℕ) (r : Outcome) (w : Plan) (c : Focus) : Type 0 where
  pub fit : is_ok r ≡ result_fits c
  pub flag : IfOk r (λ o. o.flag ≡ (rewrite c.plan).transformed)
  pub image : IfOk r (λ o. MatchOption o.image (answer c ≡ w) (λ n. Image work n (answer c)))
