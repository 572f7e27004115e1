-- The steps of the walk: which record is the next, what a visit there comes to, and what it comes to where none is left.
use Rattle.std.specs.Prelude.{Option as Maybe, None, Some, Ok, Err, IfSome, IsNone, MatchOption}
use Rattle.std.specs.Option.{unwrap_or}
use Prim.Native.Nat.{ℕ, zero, suc, ◌+◌, ◌-◌, ◌*◌, ◌/◌, ◌≤◌, ◌<◌}
use native.Mathlib.Omega.{arith}
use native.Mathlib.Numerals.{add-one}
use mathlib.Core.Path.{◌≡◌, refl, sym, ap, subst, ◌∙◌}
use mathlib.Core.Bool.{Bool, true, false}
use mathlib.Core.List.{List}
use mathlib.Core.Option.{none, some}
use mir.Val.{bool_byte}
use lib.ListN.{length, take, drop}
use lib.Dec.{leb}
use borrow.Author.Tests.{le-leb, lt-leb, leb-true, leb-false}
use Rattle.image.specs.Limits.{work_bytes, max_records}
use Rattle.image.specs.Tree.{label_at}
use Rattle.plan.specs.Kinds.{is_plan}
use Rattle.plan.specs.Lists.{choose}
use Rattle.plan.specs.Measure.{size_p}
use Rattle.plan.specs.Syntax.{Plan}
use Rattle.plan.specs.Trees.{bit_of}
use Rattle.acceptance.specs.Accepted.{WellFormed, Accepted}
use Rattle.rewrite.specs.Pass.{pass_refused}
use Rattle.rewrite.specs.RewriteAt.{Focus, focus, granted, refused, rewrite_in, rewrite_at}
use Rattle.rewrite.specs.PassByRecords.{plan_from, visits}
use Rattle.rewrite.proofs.PlanFrom.{from_here, from_later, from_end}
use Rattle.push_down_merge.proofs.Root.{image_length, standing_root}
use Rattle.push_down_rewrite.proofs.Marked.{plan_there, found_there, not_found}
use Rattle.push_down_merge.proofs.Tested.{inside_of}
use Rattle.push_down_merge.specs.Merging.{Inside}
use Rattle.preservation.proofs.Granted.{granted_well}
use Rattle.push_down_rewrite.proofs.Images.{image_room}
use Rattle.push_down_merge.specs.Found.{Found}
use Rattle.image.specs.declared.refusals.Refusal.TheVariants.{TooLarge as TooLargeAt}
use Rattle.push_down_merge.specs.declared.filter.TooLarge.{TooLarge}
use Rattle.push_down_rewrite.specs.declared.node.Rewritten.{Rewritten}
use Rattle.push_down_rewrite.specs.Outcomes.{Image, Outcome, Outcomes, answer}
use Rattle.pass.specs.Walks.{Walk, within, Next, Counted, rest, Stands, Standing, Continues, Came, Comes, Going, Refused, Planned}

-- ---- the next record

module _ (n records : ℕ) where
  pub within_some : n < records → within n records ≡ some n
  unfolding within choose
  within_some h = rw (lt-leb records n h)

  pub within_none : records ≤ n → within n records ≡ none
  unfolding within choose
  within_none h = rw (le-leb records n h)

-- the image of a well-formed plan, cut off behind its last record
pub accepted_part : {s : List ℕ} {records : ℕ} {q : Plan} → WellFormed q → Image s records q → Accepted (take (32 * records) s) q
accepted_part w i = record { image = i.bytes; well = w }

-- what was copied
pub image_copied : {s t : List ℕ} {records : ℕ} {q : Plan} → take (32 * records) t ≡ take (32 * records) s
    → Image s records q → Image t records q
image_copied e i = record { count = i.count; bytes = e ∙ i.bytes }

module _ {s : List ℕ} {q : Plan} (a : Accepted s q) where
  pub records_are : length s / 32 ≡ size_p q
  records_are = omega (arith, image_length s q a)

  -- whether a plan stands at record n
  module _ {n : ℕ} (small : n < size_p q) where
    pub passes_by : is_plan (label_at (drop (32 * n) s)) ≡ false → plan_from n q ≡ plan_from (n + 1) q
    passes_by e = rw (add-one n) (from_later n q (not_found (focus n q) (plan_there (standing_root s q a) n small ∙ e)))

    pub stops_here : is_plan (label_at (drop (32 * n) s)) ≡ true → Next q n n
    stops_here e =
        let f = found_there (focus n q) (plan_there (standing_root s q a) n small ∙ e) in
        record {
          next = from_here n q f.0 f.1 ∙ sym (within_some n (size_p q) small);
          there = λ h. record { spot = f.0; there = f.1 };
        }

  -- none stands from there to here
  skipped : (d from to : ℕ) → from + d ≡ to → to ≤ size_p q
      → ((k : ℕ) → from ≤ k → k < to → is_plan (label_at (drop (32 * k) s)) ≡ false) → plan_from from q ≡ plan_from to q
  skipped zero from to e l f = ap (λ n. plan_from n q) (omega arith)
  skipped (suc d) from to e l f =
      passes_by (omega arith) (f from (omega arith) (omega arith))
      ∙ skipped d (from + 1) to (omega arith) l (λ k x y. f k (omega arith) y)

  -- the first from there, if there is one
  pub searched : (from : ℕ) (r : Maybe ℕ) → MatchOption r
      ((k : ℕ) → from ≤ k → k < length s / 32 → is_plan (label_at (drop (32 * k) s)) ≡ false)
      (λ i. (from ≤ i) × (i < length s / 32) × (is_plan (label_at (drop (32 * i) s)) ≡ true)
      × ((k : ℕ) → from ≤ k → k < i → is_plan (label_at (drop (32 * k) s)) ≡ false))
      → Next q from (unwrap_or r (length s / 32))
  searched from (Some i) f =
      let n : Next q i i = stops_here (omega (arith, records_are, f)) f.2 in
      record { next = skipped (i - from) from i (omega (arith, f)) (omega (arith, records_are, f)) f.3 ∙ n.next; there = n.there }
  searched from None f = go (leb from (length s / 32)) refl
    where
      end : {n : ℕ} → length s / 32 ≤ n → plan_from n q ≡ within (length s / 32) (size_p q)
      end {n} h = from_end n q (omega (arith, records_are)) ∙ sym (within_none (length s / 32) (size_p q) (omega (arith, records_are)))

      past : length s / 32 < size_p q → Planned q (length s / 32)
      past k = absurd (omega (arith, records_are))

      go : (b : Bool) → leb from (length s / 32) ≡ b → Next q from (length s / 32)
      go true e =
          let l = leb-true from (length s / 32) e in
          record {
            next = skipped (length s / 32 - from) from (length s / 32) (omega (arith, l)) (omega (arith, records_are)) f ∙ end (omega arith);
            there = past;
          }
      go false e = let l = leb-false from (length s / 32) e in record { next = end (omega (arith, l)); there = past }

-- ---- a visit is counted

-- the number that a flag is converted to
pub byte_is : (b : Bool) → bool_byte b ≡ bit_of b
byte_is true = refl
byte_is false = refl

bit_small : (b : Bool) → bit_of b ≤ 1
bit_small true = omega arith
bit_small false = omega arith

module _ {w : Walk} (k : Counted w) where
  pub continued : {s : List ℕ} {flag : Bool} {r : Walk} {q : Plan} → WellFormed q → Image s r.records q → Next q (w.next + 1) r.next
      → r.left ≡ w.left - 1 → r.visits ≡ w.visits + 1 → r.changed ≡ w.changed + bit_of flag
      → Continues s w flag r q
  unfolding rest
  continued {s} {flag} {r} {q} well i n l v c = record {
    stands = record {
      well = well;
      image = i;
      there = λ h. n.there (omega (arith, i.count));
      most = omega arith;
      raised = omega (arith, bit_small flag);
    };
    comes = rw (l, v, c, i.count, ← n.next, add-one w.next);
  }

-- ---- what a visit comes to

module _ (n : ℕ) (q : Plan) (v c : ℕ) where
  visit_refused : (left : ℕ) {k r : ℕ} → 0 < left → rewrite_at n q ≡ refused k r → visits left (some n) q v c ≡ pass_refused k r
  unfolding visits
  visit_refused zero h e = absurd (omega arith)
  visit_refused (suc left) h e = rw (e, visits)

  visit_granted : (left : ℕ) {f : Bool} {t : Plan} → 0 < left → rewrite_at n q ≡ granted f t
      → visits left (some n) q v c ≡ visits (left - 1) (plan_from (suc n) t) t (v + 1) (c + bit_of f)
  unfolding visits
  visit_granted zero h e = absurd (omega arith)
  visit_granted (suc left) {f} {t} h e =
      let z : suc left - 1 ≡ left = omega arith in
      rw (e, visits) (ap (λ b. visits b (plan_from (suc n) t) t (v + 1) (c + bit_of f)) (sym z))

-- the next plan is rewritten
module _ {s : List ℕ} {w : Walk} {q : Plan} (h : Stands s w q) (small : w.next < w.records) where
  inside_next : Inside (take (32 * w.records) s) w.next q (h.there small).spot
  inside_next = inside_of _ q (accepted_part h.well h.image) (h.there small).there

  pub came_to : {work : List ℕ} {r : Outcome} → 0 < w.left
      → ((p : Plan) (c : Focus) → Inside (take (32 * w.records) s) w.next p c → Outcomes work r p c) → Came s work w r q
  came_to l o = record {
    stands = h;
    small = small;
    some_left = l;
    spot = (h.there small).spot;
    there = (h.there small).there;
    outcomes = o q (h.there small).spot inside_next;
  }

-- where the rewrite comes to the plan that stood, nothing was written
pub unwritten : {s : List ℕ} {w : Walk} {q : Plan} {c : Focus} (i : Maybe ℕ) → Stands s w q
    → ((p : Plan) (d : Focus) → Inside (take (32 * w.records) s) w.next p d → IfSome i (λ n. answer d ≡ p → ⊥))
    → focus w.next q ≡ some c → answer c ≡ q → IsNone i
unwritten {q = q} {c = c} i h changes there same = go i (changes q c (inside_of _ q (accepted_part h.well h.image) there))
  where
    go : (i : Maybe ℕ) → IfSome i (λ n. answer c ≡ q → ⊥) → IsNone i
    go None f = refl
    go (Some n) f = absurd (f same)

pub found_next : {s : List ℕ} {w : Walk} → Standing s w → w.next < w.records → Found (take (32 * w.records) s) w.next
found_next h small = record { whole = h.plan; spot = _; inside = inside_next h.stands small }

-- the rewrite was refused
pub visited_refused : {s work : List ℕ} {w : Walk} {e : TooLarge} {q : Plan} → Came s work w (Err e) q
    → Refused (TooLargeAt w.next) (rest w q)
unfolding rest size_p rewrite_at rewrite_in choose
visited_refused {w = w} {q = q} k = record {
  record_of = w.next;
  is = refl;
  near = omega (arith, k.small, k.stands.image.count, k.stands.well.records);
  refused =
      let at_11 : rewrite_at w.next q ≡ refused 11 w.next = rw (k.there, ← k.outcomes.fit) in
      rw (within_some w.next w.records k.small) (visit_refused w.next q w.visits w.changed w.left k.some_left at_11);
}

-- it came to an answer
module _ {s work : List ℕ} {w : Walk} {r : Rewritten} {q : Plan} (k : Came s work w (Ok r) q) where
  at_granted : rewrite_at w.next q ≡ granted r.flag (answer k.spot)
  unfolding rewrite_at rewrite_in choose
  at_granted = rw (k.outcomes.flag, k.there, ← k.outcomes.fit)

  -- what it leaves is accepted again
  pub next_well : WellFormed (answer k.spot)
  next_well = granted_well w.next q k.stands.well r.flag (answer k.spot) at_granted

  -- its image was written and copied; or nothing was written, and the image stays
  pub next_image : {t : List ℕ} {n : ℕ} → r.image ≡ Some n → take (32 * n) t ≡ take (32 * n) work → Image t n (answer k.spot)
  next_image e f = image_copied f (rw e at k.outcomes.image)

  pub same_image : r.image ≡ None → Image s w.records (answer k.spot)
  same_image e = subst (Image s w.records) (sym (rw e at k.outcomes.image)) k.stands.image

  pub visited_granted : {t : List ℕ} {u : Walk} → Continues t w r.flag u (answer k.spot) → Going t u (rest w q)
  unfolding rest
  visited_granted c = record {
    plan = answer k.spot;
    stands = c.stands;
    comes =
        rw (within_some w.next w.records k.small)
        (visit_granted w.next q w.visits w.changed w.left k.some_left at_granted ∙ sym c.comes);
  }

-- ---- in numbers

pub room_there : {s : List ℕ} {w : Walk} → Standing s w → 32 * w.records ≤ length s
room_there h = image_room h.stands.image

module _ {s work : List ℕ} {w : Walk} {r : Rewritten} (h : Comes s work w r) where
  pub counted : Counted w
  counted = let k = h.came in record { some_left = k.some_left; most = k.stands.most; raised = k.stands.raised }

  pub room_here : 32 * w.records ≤ length s
  room_here = image_room h.came.stands.image

  pub next_few : length s ≡ work_bytes → w.next < max_records
  next_few e = let k = h.came.small in omega (arith, room_here)

  pub room_written : {n : ℕ} → r.image ≡ Some n → 32 * n ≤ length work
  room_written e = image_room (rw e at h.came.outcomes.image)
