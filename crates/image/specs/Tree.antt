-- The trees that an image stands for, and where one stands in bytes.
use Rattle.std.specs.Prelude.{◌≡◌, ℕ, suc, ◌+◌, ◌-◌, ◌*◌, ◌≤◌, ◌<◌, List, length, drop}
use Rattle.image.specs.Word.{word}
use Rattle.image.specs.declared.records.Label as declared

-- ---- trees

-- what a record says of itself, without its links: the struct of the code
abbrev pub Label : Type 0
Label = declared.Label

-- a tree with its children, and then the trees beside it
pub data Forest : Type 0 where
  none : Forest
  node : Label → Forest → Forest → Forest

-- a label with the trees below it
pub record Tree : Type 0 where
  pub label : Label
  pub below : Forest

-- how many records
abbrev pub size : Forest → ℕ
size none = 0
size (node l cs ns) = suc (size cs + size ns)

-- no branch of the forest has more than d records
abbrev pub Deep : Forest → ℕ → Type 0
Deep none d = Unit {0}
Deep (node l cs ns) d = (0 < d) × Deep cs (d - 1) × Deep ns d

-- ---- records

-- the link to a forest whose first record has the number b
abbrev pub link : ℕ → Forest → ℕ
link b none = 0
link b (node l cs ns) = b

-- the label of the record at the start of s
abbrev pub label_at : List ℕ → Label
label_at s = record { kind = word s 0; p = word s 4; q = word s 8; r = word s 12; lo = word s 16; hi = word s 20 }

-- ---- where a tree stands

-- the record at the start of s has the number b, the label l and the children cs, and all their records are there
pub record Here (l : Label) (cs : Forest) (s : List ℕ) (b : ℕ) : Type 0 where
  pub label : label_at s ≡ l
  pub first : word s 24 ≡ link (b + 1) cs
  pub room : 32 * suc (size cs) ≤ length s

-- the parts of a forest that stands somewhere
pub record Parts (Head Below Next After : Type 0) : Type 0 where
  pub head : Head
  pub below : Below
  pub next : Next
  pub after : After

-- the forest's records stand at the start of s, the first with the number b
abbrev pub Stands : Forest → List ℕ → ℕ → Type 0
Stands none s b = Unit {0}
Stands (node l cs ns) s b =
    Parts
    (Here l cs s b)
    (Stands cs (drop 32 s) (b + 1))
    (word s 28 ≡ link (b + 1 + size cs) ns)
    (Stands ns (drop (32 * suc (size cs)) s) (b + 1 + size cs))

-- the tree's records stand at the start of s, the first with the number b
pub record At (t : Tree) (s : List ℕ) (b : ℕ) : Type 0 where
  pub head : Here t.label t.below s b
  pub below : Stands t.below (drop 32 s) (b + 1)

-- some tree stands at the start of s, no deeper than d
pub record Readable (d : ℕ) (s : List ℕ) (b : ℕ) : Type 0 where
  pub tree : Tree
  pub at : At tree s b
  pub some : 0 < d
  pub deep : Deep tree.below (d - 1)

-- the forest's first record is `at`, or `at` is 0 and there is none: in bytes that begin at record b, before it
abbrev pub Linked : Forest → List ℕ → ℕ → ℕ → Type 0
Linked none s b at = at ≡ 0
Linked (node l cs ns) s b at = (b < at) × Stands (node l cs ns) (drop (32 * (at - b)) s) at

-- some forest is linked at `at`, no deeper than d
pub record Joined (d : ℕ) (s : List ℕ) (b at : ℕ) : Type 0 where
  pub forest : Forest
  pub linked : Linked forest s b at
  pub deep : Deep forest d

-- ---- labels of 32-bit words, as bytes hold them

-- each part of the label is a word
pub record Fits32 (l : Label) : Type 0 where
  pub kind : l.kind < 4294967296
  pub p : l.p < 4294967296
  pub q : l.q < 4294967296
  pub r : l.r < 4294967296
  pub lo : l.lo < 4294967296
  pub hi : l.hi < 4294967296

-- each label of the forest is of words
abbrev pub Small : Forest → Type 0
Small none = Unit {0}
Small (node l cs ns) = Fits32 l × Small cs × Small ns

-- each label of the tree is of words
abbrev pub SmallT : Tree → Type 0
SmallT t = Fits32 t.label × Small t.below
