-- Which fields of a plan a conjunct reads that may move below it, read off the plan's records.
use Rattle.std.specs.Prelude.{Bool, true, false, not, ◌&&◌, ◌||◌, cond, eqb}
use Rattle.image.specs.Tree.{Label, Forest, none, node, Tree}
use Rattle.plan.specs.Kinds.{number_e, number_p, number_q, Function, Aggregate, EntryPart, WinPart}
use Rattle.plan.specs.Syntax.{Name, is_leafward}
use Rattle.plan.specs.Trees.{qualifier, ident}
use Rattle.conjuncts.specs.Functions.{marked, fn_in}
use Rattle.conjuncts.specs.declared.volatility.Functions.TheVariants.{Volatile}
use Rattle.writing.specs.Replaced.{is_entry, lookup}

-- ---- an entry of a Projection

-- the record is a leafward function
abbrev pub leaf_here : Label → Bool
leaf_here l = eqb l.kind (number_e Function) && is_leafward l.q

-- the first of a forest is
abbrev pub leaf_first : Forest → Bool
leaf_first none = false
leaf_first (node l cs ns) = leaf_here l

-- the entry's expression is volatile or leafward
abbrev pub fixed : Tree → Bool
fixed t = fn_in (marked Volatile) t || leaf_first t.below

-- ---- an entry of a Window

-- the record has this name
abbrev pub is_named : Name → Label → Bool
is_named x l = eqb l.p (qualifier x) && eqb l.q (ident x)

-- one of a forest has it
unfoldable pub named_in : Name → Forest → Bool
named_in x none = false
named_in x (node l cs ns) = is_named x l || named_in x ns

-- one of those behind the first: the partition columns stand behind the expression
unfoldable pub partition_in : Name → Forest → Bool
partition_in x none = false
partition_in x (node l cs ns) = named_in x ns

-- ---- a plan

-- a part of a plan lets the field pass: an entry of a Window that is partitioned by it, an entry of its name that is not fixed, any other
-- part
unfoldable pub lets : Name → Tree → Bool
lets x t =
    cond (eqb t.label.kind (number_q WinPart)) (partition_in x t.below)
    (cond (is_entry t.label (qualifier x) (ident x)) (not (fixed t)) true)

-- each part does
unfoldable pub lets_all : Name → Forest → Bool
lets_all x none = true
lets_all x (node l cs ns) = lets x (record { label = l; below = cs }) && lets_all x ns

-- there is something
abbrev pub is_some : Forest → Bool
is_some none = false
is_some (node l cs ns) = true

-- a conjunct that reads the field may move: the field is a group entry of an Aggregate; each part of any other plan lets it pass
unfoldable pub may_move : Tree → Name → Bool
may_move t x =
    cond (eqb t.label.kind (number_p Aggregate)) (is_some (lookup t.below (qualifier x) (ident x))) (lets_all x t.below)

-- the first part is an entry: an Aggregate has groups
abbrev pub entry_first : Forest → Bool
entry_first none = false
entry_first (node l cs ns) = eqb l.kind (number_q EntryPart)
