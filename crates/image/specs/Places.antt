-- A tree, and a chain of siblings, that stand somewhere.
use Rattle.std.specs.Prelude.{List, ℕ, suc, zero, ◌+◌, ◌*◌, ◌-◌, drop}
use Rattle.image.specs.Tree.{At, Forest, Linked, Tree}

-- Where bytes begin that hold records: at record b of an image; at record 0, whatever b is, if there is no more before them (the first number).
abbrev pub start : ℕ → ℕ → ℕ
start zero b = 0
start (suc k) b = b

-- the place of record n among the records of the bytes
abbrev pub pos : ℕ → ℕ → ℕ → ℕ
pos zero b n = n
pos (suc k) b n = n - b

-- the byte of the image at which they end, where they are n
abbrev pub ending : ℕ → ℕ → ℕ → ℕ
ending zero b n = n
ending (suc k) b n = 32 * b + n

-- some tree stands at the p-th record of s, where its number is n
pub record Placed (s : List ℕ) (p n : ℕ) : Type 0 where
  pub tree : Tree
  pub at : At tree (drop (32 * p) s) n

-- some tree stands at record n of the image s
abbrev pub Stood : List ℕ → ℕ → Type 0
Stood s n = Placed s n n

-- some forest is linked at `at`, in bytes that begin at record b
pub record Chained (s : List ℕ) (b at : ℕ) : Type 0 where
  pub forest : Forest
  pub linked : Linked forest s b at
