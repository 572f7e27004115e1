-- Numbers and lines as they are printed, in bytes.
use Rattle.std.specs.Prelude.{ℕ, zero, suc, ◌+◌, ◌/◌, ◌%◌, List, [], ◌∷◌, ◌++◌, ltb}
use Rattle.image.specs.Tree.{Label, Forest, none, node}
use Rattle.plan.specs.Lists.{choose}

-- ---- numbers

-- the digits of n, of which there are at most k
unfoldable pub digits : ℕ → ℕ → List ℕ
digits zero n = []
digits (suc k) n = choose (ltb n 10) ((48 + n) ∷ []) (digits k (n / 10) ++ ((48 + n % 10) ∷ []))

-- in base 10, without leading zeros; n has at most n + 1 digits
unfoldable pub decimal : ℕ → List ℕ
decimal n = digits (suc n) n

-- ---- lines

-- a space, then a number
unfoldable pub spaced : ℕ → List ℕ
spaced n = 32 ∷ decimal n

abbrev pub newline : List ℕ
newline = 10 ∷ []

-- depth, kind, p, q, r, lo, hi
unfoldable pub line : ℕ → Label → List ℕ
line d l =
    decimal d
    ++ (spaced l.kind ++ (spaced l.p ++ (spaced l.q ++ (spaced l.r ++ (spaced l.lo ++ (spaced l.hi ++ newline))))))

-- a line for each record of a forest, parents first, the first of them at depth d
unfoldable pub lines : ℕ → Forest → List ℕ
lines d none = []
lines d (node l cs ns) = line d l ++ (lines (d + 1) cs ++ lines d ns)

-- a name, a space, then a number
unfoldable pub named : List ℕ → ℕ → List ℕ
named name n = name ++ spaced n

-- "visits V changed C finished F"
unfoldable pub counts : ℕ → ℕ → ℕ → List ℕ
counts v c f =
    named (118 ∷ 105 ∷ 115 ∷ 105 ∷ 116 ∷ 115 ∷ []) v
    ++ (named (32 ∷ 99 ∷ 104 ∷ 97 ∷ 110 ∷ 103 ∷ 101 ∷ 100 ∷ []) c
    ++ (named (32 ∷ 102 ∷ 105 ∷ 110 ∷ 105 ∷ 115 ∷ 104 ∷ 101 ∷ 100 ∷ []) f ++ newline))

-- "refused N at R"
unfoldable pub refusal : ℕ → ℕ → List ℕ
refusal n r = named (114 ∷ 101 ∷ 102 ∷ 117 ∷ 115 ∷ 101 ∷ 100 ∷ []) n ++ (named (32 ∷ 97 ∷ 116 ∷ []) r ++ newline)
