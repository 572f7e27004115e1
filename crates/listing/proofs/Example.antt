-- The example of docs/FORMAT.md, from the bytes that are read to those that are printed: the files stdin and stdout of the crate lister.
use Prim.Native.Nat.{ℕ}
use mathlib.Core.Path.{◌≡◌, refl}
use mathlib.Core.List.{List, [], ◌∷◌, ◌++◌}
use Rattle.image.specs.Flat.{bytes_of}
use Rattle.image.specs.Word.{le}
use Rattle.plan.specs.Trees.{low_half, high_half}
use Rattle.acceptance.proofs.Opened.{checked}
use Rattle.rewrite.specs.OnBytes.{plan_from_links, plan_in, is_accepted}
use Rattle.rewrite.proofs.Opened.{opened}
use Rattle.text.specs.Lines.{digits, decimal, spaced, line, lines, named, counts, refusal}
use Rattle.listing.specs.Listing.{told, listing}

abbrev words : ℕ → ℕ → ℕ → ℕ → ℕ → ℕ → ℕ → ℕ → List ℕ
words kind p q r lo hi first next = bytes_of (record { kind = kind; p = p; q = q; r = r; lo = lo; hi = hi }) first next

-- Filter t.c > 5 (t 1, c 1) over table 1 with c marked
abbrev example : List ℕ
example =
    words 33 0 0 0 0 0 1 0
    ++ (words 5 7 0 0 0 0 2 4
    ++ (words 1 1 1 0 0 0 0 3 ++ (words 2 0 0 0 5 0 0 0 ++ (words 32 1 0 0 0 0 5 0 ++ words 48 1 1 1 1 0 0 0))))

pub listed : listing example ≡
    -- 1 32 1 0 0 0 0
    49 ∷ 32 ∷ 51 ∷ 50 ∷ 32 ∷ 49 ∷ 32 ∷ 48 ∷ 32 ∷ 48 ∷ 32 ∷ 48 ∷ 32 ∷ 48 ∷ 10
    -- 2 48 1 1 1 1 0
    ∷ 50 ∷ 32 ∷ 52 ∷ 56 ∷ 32 ∷ 49 ∷ 32 ∷ 49 ∷ 32 ∷ 49 ∷ 32 ∷ 49 ∷ 32 ∷ 48 ∷ 10
    -- 2 5 7 0 0 0 0
    ∷ 50 ∷ 32 ∷ 53 ∷ 32 ∷ 55 ∷ 32 ∷ 48 ∷ 32 ∷ 48 ∷ 32 ∷ 48 ∷ 32 ∷ 48 ∷ 10
    -- 3 1 1 1 0 0 0
    ∷ 51 ∷ 32 ∷ 49 ∷ 32 ∷ 49 ∷ 32 ∷ 49 ∷ 32 ∷ 48 ∷ 32 ∷ 48 ∷ 32 ∷ 48 ∷ 10
    -- 3 2 0 0 0 5 0
    ∷ 51 ∷ 32 ∷ 50 ∷ 32 ∷ 48 ∷ 32 ∷ 48 ∷ 32 ∷ 48 ∷ 32 ∷ 53 ∷ 32 ∷ 48 ∷ 10
    -- visits 1 changed 1 finished 1
    ∷ 118 ∷ 105 ∷ 115 ∷ 105 ∷ 116 ∷ 115 ∷ 32 ∷ 49 ∷ 32 ∷ 99 ∷ 104 ∷ 97 ∷ 110 ∷ 103 ∷ 101
    ∷ 100 ∷ 32 ∷ 49 ∷ 32 ∷ 102 ∷ 105 ∷ 110 ∷ 105 ∷ 115 ∷ 104 ∷ 101 ∷ 100 ∷ 32 ∷ 49 ∷ 10
    ∷ []
unfolding checked opened bytes_of le low_half high_half plan_from_links plan_in is_accepted digits decimal spaced line lines named counts told
    refusal listing
listed = refl

-- nothing on standard input
pub none_listed : listing [] ≡
    -- refused 1 at 0
    114 ∷ 101 ∷ 102 ∷ 117 ∷ 115 ∷ 101 ∷ 100 ∷ 32 ∷ 49 ∷ 32 ∷ 97 ∷ 116 ∷ 32 ∷ 48 ∷ 10 ∷ []
unfolding checked opened is_accepted digits decimal spaced named refusal listing
none_listed = refl
