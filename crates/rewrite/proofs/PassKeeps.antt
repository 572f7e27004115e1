-- What a pass leaves has the rows of what it got, in every world, and is accepted again.
use Prim.Native.Nat.{ℕ, zero, suc, ◌+◌, ◌*◌}
use mathlib.Core.Path.{◌≡◌, refl, subst}
use mathlib.Core.Bool.{Bool, true, false}
use lib.Dec.{leb}
use Rattle.image.specs.Limits.{max_depth, record_bytes}
use Rattle.plan.specs.Lists.{choose}
use Rattle.plan.proofs.Lists.{and_l, and_r}
use Rattle.plan.specs.Trees.{bit_of}
use Rattle.plan.specs.Syntax.{Plan}
use Rattle.plan.specs.Measure.{size_p}
use Rattle.rewrite.specs.Limits.{within_limits}
use Rattle.rewrite.specs.RewriteAt.{Answer, granted, refused, rewrite_at}
use Rattle.rewrite.specs.Pass.{inputs, first_input, at_record, Walk, walking, spent, failed, and_then, each_input, visit, PassAnswer}
use Rattle.rewrite.specs.Pass.{passed, pass_refused, report, pass, pass_with_room, pass_call}
use Rattle.acceptance.specs.NamesRule.{ok}
use Rattle.rewrite.proofs.Accepted.{accepted}
use Rattle.rewrite.proofs.AtRecord.{Answered, was_granted, Leaves, Kept, keeps_trans, leaves_self, kept, accepted_ok}
use Rattle.rewrite.proofs.AtRecord.{rewrite_at_answered}

-- a granted pass leaves its answer, a refused one the plan it got
abbrev pub left_by_pass : Plan → PassAnswer → Plan
left_by_pass p (passed v c f q) = q
left_by_pass p (pass_refused k r) = p

-- ---- for any relation that every granted rewrite keeps

-- `Stands q p`: the plan q may stand where the good plan p stood
module _
    (Good : Plan → Type 0) (Stands : Plan → Plan → Type 0)
    (self : (p : Plan) → Good p → Stands p p)
    (good : (q p : Plan) → Stands q p → Good q)
    (trans : (r q p : Plan) → Stands r q → Stands q p → Stands r p)
    (step : (n : ℕ) (p : Plan) → Good p → (f : Bool) (q : Plan) → rewrite_at n p ≡ granted f q → Stands q p)
  where
    data WalkLeaves (p : Plan) : Walk → Type 0 where
      on_the_way : {q : Plan} {b v c : ℕ} → Stands q p → WalkLeaves p (walking q b v c)
      at_its_end : {q : Plan} {v c : ℕ} → Stands q p → WalkLeaves p (spent q v c)
      no_way : {k r : ℕ} → WalkLeaves p (failed k r)

    further : {p q : Plan} {w : Walk} → Stands q p → WalkLeaves q w → WalkLeaves p w
    further h (on_the_way l) = on_the_way (trans _ _ _ l h)
    further h (at_its_end l) = at_its_end (trans _ _ _ l h)
    further h no_way = no_way

    module _ (f : ℕ → Plan → ℕ → ℕ → ℕ → Walk) (leaves : (n : ℕ) (p : Plan) (b v c : ℕ) → Good p → WalkLeaves p (f n p b v c)) where
      then_leaves : {p : Plan} {w : Walk} (g : Plan → ℕ → ℕ → ℕ → Walk) → ((q : Plan) (b v c : ℕ) → Good q → WalkLeaves q (g q b v c))
          → WalkLeaves p w → WalkLeaves p (and_then w g)
      then_leaves g h (on_the_way {q = q} {b = b} {v = v} {c = c} l) = further l (h q b v c (good _ _ l))
      then_leaves g h (at_its_end l) = at_its_end l
      then_leaves g h no_way = no_way

      each_leaves : (m n : ℕ) (p : Plan) (b v c : ℕ) → Good p → WalkLeaves p (each_input f m n p b v c)
      unfolding each_input
      each_leaves zero n p b v c o = on_the_way (self p o)
      each_leaves (suc m) n p b v c o =
          then_leaves _ (λ q b v c o. each_leaves m (n + at_record size_p n q) q b v c o) (leaves n p b v c o)

    granted_leaves : (d n b v c : ℕ) (p : Plan) → Good p → (a : Answer) → rewrite_at n p ≡ a
        → ((n : ℕ) (p : Plan) (b v c : ℕ) → Good p → WalkLeaves p (visit d n p b v c))
        → WalkLeaves p (elim a as (λ x. Walk) [
          | granted f q ↦ each_input (visit d) (at_record inputs n q) (n + at_record first_input n q) q b (v + 1) (c + bit_of f)
          | refused k r ↦ failed k r
        ])
    granted_leaves d n b v c p o (granted f q) e ih =
        let l = step n p o f q e in
        further l (each_leaves (visit d) ih _ _ q b _ _ (good _ _ l))
    granted_leaves d n b v c p o (refused k r) e ih = no_way

    visit_leaves : (d n : ℕ) (p : Plan) (b v c : ℕ) → Good p → WalkLeaves p (visit d n p b v c)
    unfolding visit
    visit_leaves zero n p b v c o = no_way
    visit_leaves (suc d) n p zero v c o = at_its_end (self p o)
    visit_leaves (suc d) n p (suc b) v c o =
        granted_leaves d n b v c p o (rewrite_at n p) refl (λ n p b v c o. visit_leaves d n p b v c o)

    reported_leaves : {p : Plan} {w : Walk} → Good p → WalkLeaves p w → Stands (left_by_pass p (report w)) p
    reported_leaves o (on_the_way l) = l
    reported_leaves o (at_its_end l) = l
    reported_leaves {p} o no_way = self p o

    room_leaves : (room : ℕ) (p : Plan) (a : PassAnswer) → Good p → Stands (left_by_pass p a) p → Stands (left_by_pass p (pass_with_room room a)) p
    unfolding pass_with_room choose
    room_leaves room p (pass_refused k r) o l = self p o
    room_leaves room p (passed v c f q) o l = go (leb (record_bytes * size_p q) room)
      where
        go : (b : Bool) → Stands (left_by_pass p (choose b (passed v c f q) (pass_refused 12 0))) p
        go true = l
        go false = self p o

    -- what a pass leaves may stand where the plan stood
    pub pass_leaves : (budget room : ℕ) (p : Plan) → Good p → Stands (left_by_pass p (pass_call budget room p)) p
    unfolding pass_call pass
    pass_leaves budget room p o = room_leaves room p _ o (reported_leaves o (visit_leaves max_depth 0 p budget 0 0 o))

-- ---- rows

granted_is : {p q : Plan} {f : Bool} → Answered p (granted f q) → Leaves q p
granted_is (was_granted l) = l

pub pass_keeps_rows : (budget room : ℕ) (p : Plan) → accepted p ≡ true → Kept (left_by_pass p (pass_call budget room p)) p
unfolding accepted
pass_keeps_rows budget room p h =
    kept
    (pass_leaves (λ p. (ok p ≡ true) × (within_limits p ≡ true)) Leaves (λ p g. leaves_self g.0 g.1) (λ q p l. (l.keeps.well, l.fitting))
    (λ r q p l k. record { keeps = keeps_trans l.keeps k.keeps; fitting = l.fitting })
    (λ n p g f q e. granted_is (subst (Answered p) e (rewrite_at_answered n p g.0)))
    budget room p (accepted_ok p h, and_l _ _ h))
    (and_r _ _ (and_r _ _ h))
