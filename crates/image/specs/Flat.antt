-- The two ways of writing a tree, parents first: flat, each record with its depth in the place of its first link, and as an image, with
-- links.
use Rattle.std.specs.Prelude.{List, [], ◌++◌, ℕ, suc, ◌+◌}
use Rattle.image.specs.Word.{le}
use Rattle.image.specs.Tree.{Label, Forest, none, node, Tree, size, link}

-- how many records a tree has
abbrev pub size_t : Tree → ℕ
size_t t = suc (size t.below)

-- the 32 bytes of a record with the label l and the links a and b
unfoldable pub bytes_of : Label → ℕ → ℕ → List ℕ
bytes_of l a b =
    le l.kind ++ (le l.p ++ (le l.q ++ (le l.r ++ (le l.lo ++ (le l.hi ++ (le a ++ le b))))))

-- a forest written flat, its first records at depth d
abbrev pub flat_any : ℕ → Forest → List ℕ
flat_any d none = []
flat_any d (node l cs ns) = bytes_of l d 0 ++ (flat_any (d + 1) cs ++ flat_any d ns)

-- a tree written flat, its top at depth d
abbrev pub flat : ℕ → Tree → List ℕ
flat d t = bytes_of t.label d 0 ++ flat_any (d + 1) t.below

-- the image of a forest whose first record has the number b
abbrev pub enc_any : ℕ → Forest → List ℕ
enc_any b none = []
enc_any b (node l cs ns) =
    bytes_of l (link (b + 1) cs) (link (b + 1 + size cs) ns)
    ++ (enc_any (b + 1) cs ++ enc_any (b + 1 + size cs) ns)

-- the image of a tree whose first record has the number b
abbrev pub enc : ℕ → Tree → List ℕ
enc b t = bytes_of t.label (link (b + 1) t.below) 0 ++ enc_any (b + 1) t.below
