-- What a row over two schemas says.
use mathlib.Core.Path.{◌≡◌}
use mathlib.Core.Bool.{true, false}
use mathlib.Core.List.{List, ◌++◌}
use lib.ListN.{length}
use Rattle.plan.specs.Schema.{has}
use Rattle.plan.proofs.Names.{look_d_left, look_d_right}
use Rattle.plan.specs.Syntax.{null, Name}
use Rattle.meaning.specs.Meaning.{Row, look}

pub look_left : (s t : List Name) (l r : Row) → length l ≡ length s → (x : Name) → has s x ≡ true
    → look (s ++ t) (l ++ r) x ≡ look s l x
look_left s t l r w x h = look_d_left null s t l r w x h

pub look_right : (s t : List Name) (l r : Row) → length l ≡ length s → (x : Name) → has s x ≡ false
    → look (s ++ t) (l ++ r) x ≡ look t r x
look_right s t l r w x h = look_d_right null s t l r w x h
