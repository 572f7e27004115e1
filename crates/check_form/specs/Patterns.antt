-- Patterns of children: the items of the code, one after another.
use Rattle.std.specs.Prelude.{◌≡◌, Bool, false, List, [], ◌∷◌, ℕ, Option, None, Some}
use Rattle.image.specs.Subtrees.{forest}
use Rattle.image.specs.declared.trees.Stretches.{Stretches}
use Rattle.image.specs.Tree.{Forest}
use Rattle.plan.specs.Form.{end, one, many, perhaps}
use Rattle.check_form.specs.Sorts.{of_sort}
use Rattle.check_form.specs.declared.patterns.Item.{Item}
use Rattle.check_form.specs.declared.patterns.Item.TheVariants.{One, Any, Perhaps}

-- the items, and then the end
unfoldable pub meets : List Item → Forest → Bool
meets [] f = end f
meets (One sort ∷ items) f = one (of_sort sort) (meets items) f
meets (Any sort ∷ items) f = many (of_sort sort) (meets items) f
meets (Perhaps sort ∷ items) f = perhaps (of_sort sort) f

-- after a part of a pattern: it fails, whatever is to follow, or these trees are to meet what follows
abbrev pub Follows : {N : ℕ} → ((Forest → Bool) → Forest → Bool) → Forest → Option (Stretches N) → Type 0
Follows m f None = (rest : Forest → Bool) → m rest f ≡ false
Follows m f (Some x) = (rest : Forest → Bool) → m rest f ≡ rest (forest x)

-- r is where the part leads from the trees f on
pub record Leads {N : ℕ} (m : (Forest → Bool) → Forest → Bool) (f : Forest) (r : Option (Stretches N)) : Type 0 where
  pub leads : Follows m f r
