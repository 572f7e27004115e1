-- The number of each refusal of docs/FORMAT.md, and the record that it names; 0 where it names none.
use Rattle.std.specs.Prelude.{ℕ}
use Rattle.image.specs.declared.refusals.Refusal.{Refusal}
use Rattle.image.specs.declared.refusals.Refusal.TheVariants.{Buffer, Record, Link, Depth, Form, Names, Types, Absent, Row, Function, TooLarge, NoRoom}

abbrev pub number_of : Refusal → ℕ
number_of Buffer = 1
number_of (Record r) = 2
number_of (Link r) = 3
number_of (Depth r) = 4
number_of (Form r) = 5
number_of (Names r) = 6
number_of (Types r) = 7
number_of (Absent r) = 8
number_of Row = 9
number_of (Function r) = 10
number_of (TooLarge r) = 11
number_of NoRoom = 12

abbrev pub named : Refusal → ℕ
named Buffer = 0
named (Record r) = r
named (Link r) = r
named (Depth r) = r
named (Form r) = r
named (Names r) = r
named (Types r) = r
named (Absent r) = r
named Row = 0
named (Function r) = r
named (TooLarge r) = r
named NoRoom = 0
