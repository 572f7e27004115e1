-- `filter::filter_input` meets its contract.
use mathlib.Core.Path.{◌≡◌, sym, ap, ◌∙◌}
use Prim.Native.Nat.{ℕ, ◌+◌, ◌-◌, ◌*◌, ◌≤◌}
use native.Mathlib.Omega.{arith}
use mathlib.Core.List.{List}
use lib.ListN.{length, drop, length-drop}
use lib.Seq.{drop-drop}
use Rattle.image.specs.Limits.{work_bytes}
use Rattle.image.specs.Places.{Placed, pos, start}
use Rattle.image.specs.Word.{word}
use Rattle.image.proofs.Standing.{word_drop}
use Rattle.image.proofs.Subtrees.{pos_is}
use Rattle.plan.specs.Syntax.{Expr, Plan, filter}
use Rattle.plan.specs.Trees.{plan_tree}
use Rattle.conjuncts.specs.Standing.{StandingP}
use Rattle.push_down_base.proofs.Steps.{filter_input}
use Rattle.push_down_merge.specs.Merging.{FilterInput}
use Rattle.push_down_merge.proofs.Merges.{filter_next, filter_room}
use Rattle.push_down_merge.proofs.filter.filter_input.Goals as goal

-- the link of the predicate leads to the input
input_there : {s part : List ℕ} {x y : ℕ} {e : Expr} {q : Plan} → length s ≤ work_bytes → StandingP s x (filter e q) → part ≡ drop (32 * x) s
    → y ≡ word part 60 → FilterInput s x y q
input_there {s} {part} {x} n h r w =
    let far : 32 * x + 60 ≡ 32 * (x + 1) + 28 = omega arith in
    let k = w ∙ ap (λ (z : List ℕ). word z 60) r ∙ word_drop s (32 * x) 60 ∙ ap (word s) far ∙ sym (word_drop s (32 * (x + 1)) 28) in
    record { link = k; after = omega (arith, k, filter_next n h); standing = rw (k ∙ filter_next n h) (filter_input n h) }

-- .. which is in the same bytes as the Filter, wherever these begin
input_placed : (N b : ℕ) {image s : List ℕ} {x y : ℕ} {q : Plan} → start N b ≤ x → drop (32 * pos N b x) image ≡ drop (32 * x) s → x ≤ y → StandingP s y q
    → Placed image (pos N b y) y
input_placed N b {image} {s} {x} {y} {q} past r far h =
    let a : 32 * x + 32 * (y - x) ≡ 32 * y = omega (arith, far) in
    let d : 32 * pos N b x + 32 * (y - x) ≡ 32 * pos N b y = omega (arith, far, past, pos_is N b x, pos_is N b y) in
    let same : drop (32 * pos N b y) image ≡ drop (32 * y) s =
    ap (λ (k : ℕ). drop k image) (sym d) ∙ sym (drop-drop (32 * (y - x)) _ image) ∙ ap (drop (32 * (y - x))) r
    ∙ drop-drop (32 * (y - x)) _ s
    ∙ ap (λ (k : ℕ). drop k s) a in
    record { tree = plan_tree q; at = rw same h.here }

pub word_at-requires : goal.word_at-requires
word_at-requires g c =
    let f = c.requires in
    let x = c.args.plan.number in
    rw (c.part.ensures, f.stretch) (omega (arith, filter_room f.short f.there.standing, length-drop (32 * x) f.image, length-drop (32 * (x + 1)) f.image))

pub invariant_of-result : goal.invariant_of-result
invariant_of-result g c =
    let f = c.requires in
    let p = c.args.plan in
    let i = input_there f.short f.there.standing (c.part.ensures ∙ f.stretch) c.word_at.ensures.0 in
    record { past = omega (arith, p.past, i.after); stood = input_placed g.row.N p.base p.past f.stretch i.after i.standing }

pub returns-clause-input : goal.returns-clause-input
returns-clause-input g c =
    λ s e q r n h. input_there n h (c.part.ensures ∙ r) c.word_at.ensures.0
