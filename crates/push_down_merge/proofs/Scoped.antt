-- A merged predicate reads the schema that both did.
use mathlib.Core.Path.{◌≡◌}
use mathlib.Core.Bool.{true}
use mathlib.Core.List.{List}
use Rattle.plan.specs.Syntax.{Name, Expr}
use Rattle.plan.specs.Schema.{has}
use Rattle.plan.proofs.Lists.{All-append}
use Rattle.acceptance.specs.NamesRule.{reads, reads?}
use Rattle.rewrite.specs.Utils.{conjunction}
use Rattle.rewrite.specs.PushDownFilter.{merged}
use Rattle.rewrite.proofs.Project.{split_cols}
use Rattle.rewrite.proofs.References.{unique_over}
use Rattle.rewrite.proofs.SimplifyFilter.{conjunction_reads}

pub merged_reads : (s : List Name) (e b : Expr) → reads s e ≡ true → reads s b ≡ true → reads? s (conjunction (merged e b)) ≡ true
unfolding merged
merged_reads s e b h k = conjunction_reads s (unique_over s (All-append (split_cols (has s) b k) (split_cols (has s) e h)))
