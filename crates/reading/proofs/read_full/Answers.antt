-- `read_full`: what one more read gives stands behind what was read.
use Rattle.std.proofs.Common.{◌≡◌, ℕ, ◌+◌, ◌≤◌, List, ◌++◌, rules, length, take, drop, refl, sym, subst, le_refl, drop_at, length-take-le}
use Rattle.std.proofs.lemmas.Slice.{take-put_mid_below}
use Rattle.std.specs.Io.KnownBytes.{Consumes}
use Rattle.std.proofs.KnownBytes.{Consumes-trans}
use borrow.Rule.Slice.PartMut.{put_mid, post_of}
use lib.Seq.{take-add, take-append-le}
use Rattle.reading.proofs.read_full.Goals as goal

-- the first a of xs, and n of ys behind them
take_more : (a k n : ℕ) (xs ys : List ℕ) → a ≤ length xs → n ≤ length ys → take a xs ++ take n ys ≡ take (a + n) (put_mid a k xs ys)
take_more a k n xs ys within fits =
    let rest : drop a (put_mid a k xs ys) ≡ ys ++ post_of a k xs = drop_at (take a xs) (ys ++ post_of a k xs) a (length-take-le a xs within) in
    sym (rw (take-add a n (put_mid a k xs ys), take-put_mid_below a k xs ys a (le_refl a) within, rest, take-append-le n ys (post_of a k xs) fits) refl)

pub loop-at-preserved : goal.loop-at-preserved
loop-at-preserved g c =
    let old = c.loop-at.invariant in
    let read = c.in_ok-n.ensures in
    record {
      same_length = search rules;
      within = search rules;
      read = subst (Consumes _ _) (take_more c.loop-at.at _ c.in_ok-n.n c.loop-at.space c.read.new.buf old.within read.bound.0)
          (Consumes-trans _ _ _ _ _ old.read read.bytes.0);
    }
