-- The text of what was read of an input is the text of the whole input.
use Prim.Native.Nat.{ℕ, ◌<◌}
use mathlib.Core.List.{List}
use lib.ListN.{length}
use Rattle.std.proofs.Common.{◌≡◌, None, Some, IfSome, Result, Ok, Err, OnOk}
use Rattle.std.specs.Io.KnownBytes.{Appends, Consumes, IsAtEnd}
use Rattle.std.specs.declared.option.Option.{Option}
use Rattle.listing.specs.Listing.{listing}
use Rattle.listing.proofs.Long.{same_listing}

-- what was written is the text of what was read, so of all that the input had left
known_listed : (known left held holds : Option (List ℕ)) (read : List ℕ) → Consumes known left read → (length read < 65568 → IsAtEnd left)
    → Appends held holds (listing read) → IfSome known (λ s. Appends held holds (listing s))
known_listed None left held holds read p end h = tt
known_listed (Some s) None held holds read p end h = absurd p
known_listed (Some s) (Some rest) held holds read p end h = rw (p, ← same_listing read rest end) h

pub input_listed : {T E : Type 0} (r : Result T E) (known left held holds : Option (List ℕ)) (read text : List ℕ) → Consumes known left read
    → (length read < 65568 → IsAtEnd left) → text ≡ listing read → OnOk r (Appends held holds text)
    → OnOk r (IfSome known (λ s. Appends held holds (listing s)))
input_listed (Ok x) known left held holds read text p end e h = known_listed known left held holds read p end (rw (← e) h)
input_listed (Err x) known left held holds read text p end e h = tt
