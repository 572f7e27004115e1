-- The forest that a link leads to, read parents first.
use Rattle.std.specs.Prelude.{cond, List, ℕ, zero, suc, ◌+◌, ◌*◌, eqb, leb, drop, Result, Ok, Err}
use Rattle.image.specs.Word.{word}
use Rattle.image.specs.Tree.{Label, Forest, none, node, label_at}
use Rattle.image.specs.declared.links.BadLink.{BadLink}

-- a forest and the next unread record, or the record with a bad link
pub data Parsed : Type 0 where
  good : Forest → ℕ → Parsed
  bad : ℕ → Parsed

-- what the code says of it: the forest itself is not kept
abbrev pub outcome : Parsed → Result ℕ BadLink
outcome (good f j) = Ok j
outcome (bad r) = Err (record { 0 = r })

-- the forest goes on with the siblings of a tree whose children have been read
abbrev pub with_next : Label → Forest → Parsed → Parsed
with_next l cs (good ns j) = good (node l cs ns) j
with_next l cs (bad r) = bad r

-- the children are read, and then the siblings from where they end
abbrev pub and_then : Label → Parsed → (ℕ → Parsed) → Parsed
and_then l (good cs j) rest = with_next l cs (rest j)
and_then l (bad r) rest = bad r

-- what `link`, a link of `owner`, leads to, where i is the next unread record of n, by at most k records
unfoldable pub parse : ℕ → List ℕ → ℕ → ℕ → ℕ → ℕ → Parsed
parse zero s n i link owner = bad owner
parse (suc k) s n i link owner =
    cond (eqb link 0) (good none i)
    (cond (eqb link i)
    (cond (leb n i) (bad owner)
    (and_then (label_at (drop (32 * i) s))
    (parse k s n (i + 1) (word s (32 * i + 24)) i)
    (λ j. parse k s n j (word s (32 * i + 28)) i)))
    (bad owner))
