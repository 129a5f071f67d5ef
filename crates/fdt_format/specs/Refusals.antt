-- The number of each refusal of a reader (document 02, request 1/14).
use Rattle.std.specs.Prelude.{ℕ}
use Rattle.fdt_format.specs.declared.Unreadable.{Unreadable}
use Rattle.fdt_format.specs.declared.Unreadable.TheVariants.{Reservations, Structure, NameOffset}

abbrev pub number_of : Unreadable → ℕ
number_of Reservations = 22
number_of Structure = 23
number_of NameOffset = 24
