-- What a pass came to: refused, with the text of the refusal; or granted, with a well-formed plan at the start of the output.
use Prim.Native.Nat.{ℕ, ◌/◌, ◌≤◌, ◌<◌}
use native.Mathlib.Omega.{arith}
use mathlib.Core.Path.{◌≡◌, refl, sym}
use mathlib.Core.Bool.{Bool, true, false}
use mathlib.Core.List.{List, ◌++◌}
use lib.ListN.{length}
use borrow.Author.Tests.{eqb-true}
use Rattle.image.specs.Limits.{work_bytes, max_below, max_records}
use Rattle.std.specs.Prelude.{None, Some}
use Rattle.image.specs.Lowest.{Found, unless, alone}
use Rattle.image.specs.Word.{Bytes}
use Rattle.image.specs.Subtrees.{Subtree, tree_of}
use Rattle.image.specs.Tree.{Tree, At, SmallT}
use Rattle.image.specs.Room.{Low, Wrote}
use Rattle.image.proofs.Subtrees.{tree_is}
use Rattle.image.proofs.Bytes.{image_bytes}
use Rattle.image.proofs.RoundTrip.{at_enc, small_at}
use Rattle.plan.specs.Form.{bad_form}
use Rattle.plan.specs.Lists.{choose}
use Rattle.plan.specs.Measure.{size_p}
use Rattle.plan.specs.Read.{plan_at}
use Rattle.plan.specs.Syntax.{Plan}
use Rattle.plan.specs.Trees.{plan_tree}
use Rattle.acceptance.specs.Accepted.{WellFormed}
use Rattle.acceptance.specs.Check.{buffer_ok, bad_words, Links, tree, broken, linked, too_deep, Verdict, verdict, at, check_plan, check_tree, check_links}
use Rattle.acceptance.specs.Check.{check}
use Rattle.acceptance.specs.Names.{bad_name}
use Rattle.acceptance.specs.Types.{bad_type}
use Rattle.rewrite.specs.OnBytes.{image_of, plan_in, is_accepted, filled, Passed, no_pass, reported, pass_bytes}
use Rattle.rewrite.specs.Pass.{PassAnswer, passed, pass_refused, pass_call}
use Rattle.rewrite.proofs.PassKeeps.{left_by_pass, pass_leaves}
use Rattle.preservation.proofs.Granted.{granted_well}
use Rattle.preservation.proofs.Images.{stands}
use Rattle.push_down_merge.proofs.Root.{standing_root}
use Rattle.answers.proofs.Whole.{begun_size, begun}
use Rattle.text.specs.Lines.{lines, counts, refusal}
use Rattle.conjuncts.specs.Standing.{StandingP}
use Rattle.listing.specs.Listing.{told, listing}
use Rattle.text.specs.Written.{flat_lines}
use Rattle.text.proofs.Records.{lines_tree}

-- ---- a verdict with the number 0 names the record 0

record Zeroed (v : Verdict) : Type 0 where
  place : v.number ≡ 0 → v ≡ verdict 0 0

at_zeroed : (n : ℕ) (f : Found) {v : Verdict} → 0 < n → Zeroed v → Zeroed (at n f v)
unfolding at
at_zeroed n None h z = z
at_zeroed n (Some r) h z = record { place = λ e. absurd (omega arith) }

tree_zeroed : (t : Tree) → Zeroed (check_tree t)
unfolding check_tree check_plan
tree_zeroed t =
    at_zeroed 4 (too_deep t) (omega arith)
    (at_zeroed 5 (bad_form t) (omega arith)
    (at_zeroed 6 (bad_name (plan_at t)) (omega arith)
    (at_zeroed 7 (bad_type (plan_at t)) (omega arith) (record { place = λ e. refl }))))

links_zeroed : (k : Links) → Zeroed (check_links k)
links_zeroed (broken r) = record { place = λ e. absurd (omega arith) }
links_zeroed (tree t) = tree_zeroed t

check_zeroed : (s : List ℕ) → Zeroed (check s)
unfolding check
check_zeroed s =
    at_zeroed 1 (unless (buffer_ok s) 0) (omega arith)
    (at_zeroed 2 (bad_words (length s / 32) s 0) (omega arith) (links_zeroed (linked s (length s / 32))))

accepted_zero : (s : List ℕ) → is_accepted s ≡ true → check s ≡ verdict 0 0
unfolding is_accepted
accepted_zero s e = (check_zeroed s).place (eqb-true (check s).number 0 e)

-- ---- the plan that a pass leaves

pass_well : (budget room : ℕ) (p : Plan) → WellFormed p → WellFormed (left_by_pass p (pass_call budget room p))
pass_well = pass_leaves WellFormed (λ q p. WellFormed q) (λ p w. w) (λ q p w. w) (λ r q p w v. w) granted_well

-- the text of a granted pass, of a plan at the start of the output
pub record Leaves (t : Passed) (text : List ℕ) : Type 0 where
  pub plan : Plan
  pub well : WellFormed plan
  pub output : t.output ≡ filled work_bytes (image_of plan)
  pub is : text ≡ lines 1 (alone (plan_tree plan)) ++ counts t.visits t.changed t.finished

-- a refused pass has no records
pub record Comes (t : Passed) (text : List ℕ) : Type 0 where
  pub refused : t.records ≡ 0 → text ≡ refusal t.number t.place
  pub granted : (t.records ≡ 0 → ⊥) → Leaves t text

answer_comes : (p : Plan) (a : PassAnswer) → WellFormed (left_by_pass p a) → Comes (reported work_bytes a) (told a)
unfolding reported no_pass told size_p
answer_comes p (passed v c f q) w =
    record { refused = λ h. absurd (omega arith); granted = λ h. record { plan = q; well = w; output = refl; is = refl } }
answer_comes p (pass_refused k r) w = record { refused = λ h. refl; granted = λ h. absurd (h refl) }

pub pass_comes : (s : List ℕ) {room : ℕ} {t : Passed} → Bytes s → room ≡ work_bytes → t ≡ pass_bytes s 10000 room → Comes t (listing s)
unfolding pass_bytes listing choose no_pass
pass_comes s bytes long e = rw (e, long) (go (is_accepted s) refl)
  where
    go : (b : Bool) → is_accepted s ≡ b
        → Comes (choose b (reported work_bytes (pass_call 10000 work_bytes (plan_in s))) (no_pass work_bytes (check s)))
        (choose b (told (pass_call 10000 work_bytes (plan_in s))) (refusal (check s).number (check s).place))
    go true e =
        answer_comes (plan_in s) (pass_call 10000 work_bytes (plan_in s))
        (pass_well 10000 work_bytes (plan_in s) (stands s (record { bytes = bytes; accepted = accepted_zero s e })).well)
    go false e = record { refused = λ h. refl; granted = λ h. absurd (h refl) }

-- ---- the tree that stands in the output

module _ (q : Plan) (w : WellFormed q) where
  abbrev t : Tree
  t = plan_tree q

  pub small : SmallT t
  small = small_at (image_bytes 0 t) (standing_root (image_of q) q (record { image = refl; well = w })).here

  pub standing : {out : List ℕ} → out ≡ filled work_bytes (image_of q) → At t out 0
  unfolding filled
  standing e = rw e (at_enc t 0 _ small (omega (arith, w.records)))

  standing_plan : {out : List ℕ} → out ≡ filled work_bytes (image_of q) → StandingP out 0 q
  standing_plan e = record {
    within = omega arith;
    here = standing e;
    deep = (standing_root (image_of q) q (record { image = refl; well = w })).deep;
    fits = w.integers;
    small = omega arith;
  }

-- a tree that a plan stands in is its tree, and may be written
module _ (x : Subtree) {q : Plan} (h : StandingP x.image.now x.number q) where
  pub tree_there : tree_of x ≡ plan_tree q
  tree_there = tree_is x (plan_tree q) refl refl h.here

  pub low : Low 2 (tree_of x).below
  low = record { depth = max_below; deep = rw tree_there h.deep; low = omega arith }

-- what was written is known otherwise
pub wrote_as : {before a b : List ℕ} {from level r : ℕ} {u : Tree} → Wrote before a from level r u → b ≡ a → Wrote before b from level r u
wrote_as h e = rw e h

-- it is written flat, and the text is its lines and the counts
module _ {r : Passed} {text : List ℕ} (g : Leaves r text) where
  pub here : StandingP r.output 0 g.plan
  here = standing_plan g.plan g.well g.output

  module _ {flat₀ flat : List ℕ} {n : ℕ} (w : Wrote flat₀ flat 0 1 n (plan_tree g.plan)) where
    pub few : n ≤ max_records
    few = omega (arith, begun_size w g.well.records, g.well.records)

    pub flat_text : length flat₀ ≡ work_bytes → flat_lines n flat ++ counts r.visits r.changed r.finished ≡ text
    flat_text long =
        let m = g.well.records in
        let e = lines_tree (plan_tree g.plan) _ (small g.plan g.well) m (begun_size w m) (begun w long m) in
        rw e (sym g.is)
