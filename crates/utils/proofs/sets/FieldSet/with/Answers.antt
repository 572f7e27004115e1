-- `sets::FieldSet::with` meets its contract: one digit is set besides.
use Prim.Native.Nat.{◌^◌}
use lib.Pow.{shl_exact}
use native.Mathlib.Nat.{one-mul}
use native.Mathlib.Omega.{arith}
use Rattle.utils.proofs.Members.{member_or, member_one}
use Rattle.utils.proofs.sets.FieldSet.with.Goals as goal

pub returns : goal.returns
returns c =
    λ j. rw (
      ← c.self.view_is,
      shl_exact {a = 1} 1 c.args.i 64 (omega arith) (omega arith),
      one-mul,
      member_or (2 ^ c.args.i) c.self.inside.0 j,
      member_one,
    )
