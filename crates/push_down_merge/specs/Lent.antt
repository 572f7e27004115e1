-- The space that a call lends a rewrite.
use Rattle.std.specs.Prelude.{◌≡◌}
use Rattle.push_down_merge.specs.declared.scratch.Scratch.{Scratch}

-- the same space is lent, whatever stands in it
pub record SameSpace (before after : Scratch) : Type 0 where
  pub m : after.m.ghost_name ≡ before.m.ghost_name
  pub work : after.work.ghost_name ≡ before.work.ghost_name
  pub levels : after.levels.ghost_name ≡ before.levels.ghost_name
