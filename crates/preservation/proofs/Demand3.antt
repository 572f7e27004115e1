-- Demand 3: no list of calls of rewrite changes the rows of the root. First for any steps that preserve, then for the calls.
use Prim.Native.Nat.{ℕ, ◌*◌, ◌<◌}
use native.Mathlib.Omega.{arith}
use mathlib.Core.Path.{◌≡◌, refl, sym, ap, subst, ◌∙◌}
use mathlib.Core.Bool.{Bool, true, false}
use mathlib.Core.List.{List, [], ◌∷◌}
use mathlib.Core.Option.{Option, none, some}
use lib.Dec.{leb}
use borrow.Author.Tests.{ne_eqb}
use Rattle.image.specs.Limits.{record_bytes}
use Rattle.plan.specs.Lists.{choose, All, anil, acons}
use Rattle.plan.specs.Syntax.{Plan}
use Rattle.plan.specs.Measure.{size_p}
use Rattle.meaning.specs.Meaning.{World, rows}
use Rattle.plan.specs.Types.{scans}
use Rattle.meaning.specs.Tables.{ScansFit}
use Rattle.acceptance.specs.Accepted.{WellFormed}
use Rattle.rewrite.specs.RewriteAt.{Focus, focus, Answer, granted, refused, result_fits, rewrite_in, rewrite_at, with_room, rewrite_call}
use Rattle.rewrite.specs.OnBytes.{image_of, plan_in, is_accepted, no_rewrite, rewritten, asked_of, rewrite_bytes}
use Rattle.preservation.specs.Volatile.{NoVolatile}
use Rattle.preservation.specs.Statement.{leaves, Step, after, Image, Fits, Preserved, Preserves, Call, left_by, call, calls, rows_of, Demand3}
use Rattle.preservation.proofs.Images.{plan_in_image, stands, image_of_lem, without_zeros}
use Rattle.preservation.proofs.Granted.{Granted, granted_keeps}

-- ---- a list of steps

pub preserved_self : (s : List ℕ) → Image s → NoVolatile (plan_in s) → Preserved s s
preserved_self s h v = record { image = h; not_volatile = v; fitting = λ W f. f; same_rows = λ W f. refl }

preserved_trans : {s t u : List ℕ} → Preserved s t → Preserved t u → Preserved s u
preserved_trans a b = record {
  image = b.image;
  not_volatile = b.not_volatile;
  fitting = λ W f. b.fitting W (a.fitting W f);
  same_rows = λ W f. b.same_rows W (a.fitting W f) ∙ a.same_rows W f;
}

-- THE LIST THEOREM: steps that preserve, one after another, preserve. Whatever rewrite joins the list needs to be shown such a step.
pub steps_preserve : (steps : List Step) → All Preserves steps → Preserves (after steps)
unfolding after
steps_preserve [] anil s h v = preserved_self s h v
steps_preserve (step ∷ steps) (acons k ks) s h v =
    let a = k s h v in
    preserved_trans a (steps_preserve steps ks (step s) a.image a.not_volatile)

-- ---- the answer of a call

-- a granted call answers a plan that may stand for the one given; a refused one has a number
data Left (p : Plan) : Answer → Type 0 where
  new : {f : Bool} {q : Plan} → Granted q p → Left p (granted f q)
  same : {k r : ℕ} → 0 < k → Left p (refused k r)

-- the numbers of refusals are 8 and 11 at a record
module _ (n : ℕ) where
  pub numbered : (o : Option Focus) (k r : ℕ) → rewrite_in n o ≡ refused k r → 0 < k
  unfolding rewrite_in choose
  numbered none k r e = let i : 8 ≡ k = cc in omega arith
  numbered (some c) k r e = either (result_fits c) _ _ e
    where
      either : (b f : Bool) (q : Plan) → choose b (granted f q) (refused 11 n) ≡ refused k r → 0 < k
      either true f q e = let z : ◌≡◌ {A = ℕ} 0 1 = cc in absurd (omega arith)
      either false f q e = let i : 11 ≡ k = cc in omega arith

at_record : (n : ℕ) (p : Plan) → WellFormed p → NoVolatile p → Left p (rewrite_at n p)
unfolding rewrite_at
at_record n p w v = go (rewrite_at n p) refl
  where
    go : (a : Answer) → rewrite_at n p ≡ a → Left p a
    go (granted f q) e = new (granted_keeps n p w f q e v)
    go (refused k r) e = same (numbered n (focus n p) k r e)

-- 12 is the number where there is no room
in_room : (room : ℕ) {p : Plan} {a : Answer} → Left p a → Left p (with_room room a)
unfolding with_room choose
in_room room (same h) = same h
in_room room {p} (new {f = f} {q = q} g) = go (leb (record_bytes * size_p q) room)
  where
    go : (b : Bool) → Left p (choose b (granted f q) (refused 12 0))
    go true = new g
    go false = same {k = 12} (omega arith)

-- ---- a call on bytes

-- an image that a granted call leaves
pub preserved_granted : (s : List ℕ) (q : Plan) → Granted q (plan_in s) → Preserved s (image_of q)
preserved_granted s q g =
    let e : plan_in (image_of q) ≡ q = plan_in_image q g.well in
    record {
      image = image_of_lem q g.well;
      not_volatile = subst NoVolatile (sym e) g.not_volatile;
      fitting = λ W f. record {
        tables = subst (λ (x : Plan). ScansFit W (scans x)) (sym e) (subst (ScansFit W) (sym g.keeps.scans_same) f.tables);
        functions = f.functions;
      };
      same_rows = λ W f. ap (rows W) e ∙ g.keeps.row_lists W f.tables;
    }

left_preserves : (s : List ℕ) (room : ℕ) → Image s → NoVolatile (plan_in s) → {a : Answer} → Left (plan_in s) a
    → Preserved s (left_by s (rewritten room a))
unfolding leaves left_by rewritten no_rewrite choose
left_preserves s room h v (new {q = q} g) = rw (without_zeros room q) (preserved_granted s q g)
left_preserves s room h v (same {k = k} pos) = rw (ne_eqb k 0 (λ e. omega arith)) (preserved_self s h v)

pub accepted_is : (s : List ℕ) → Image s → is_accepted s ≡ true
unfolding is_accepted
accepted_is s h = rw h.accepted

-- a call of rewrite preserves
pub call_preserves : (c : Call) → Preserves (call c)
unfolding call rewrite_bytes asked_of choose rewrite_call
call_preserves c s h v =
    rw (accepted_is s h)
    (left_preserves s c.room h v (in_room c.room (at_record c.node (plan_in s) (stands s h).well v)))

calls_preserve : (cs : List Call) → All Preserves (calls cs)
unfolding calls
calls_preserve [] = anil
calls_preserve (c ∷ cs) = acons (call_preserves c) (calls_preserve cs)

-- DEMAND 3
pub demand3 : Demand3
demand3 cs = steps_preserve (calls cs) (calls_preserve cs)

-- hence any two lists of calls from one image end with the same rows
pub any_two_lists : (cs ds : List Call) (s : List ℕ) → Image s → NoVolatile (plan_in s)
    → (W : World) → Fits W s → rows_of W (after (calls cs) s) ≡ rows_of W (after (calls ds) s)
any_two_lists cs ds s h v W f = (demand3 cs s h v).same_rows W f ∙ sym ((demand3 ds s h v).same_rows W f)
