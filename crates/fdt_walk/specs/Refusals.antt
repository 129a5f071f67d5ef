-- The number of each refusal of a reader (document 02, request 1/14).
use Rattle.std.specs.Prelude.{ℕ}
use Rattle.fdt_format.specs.Refusals.{number_of as unreadableNumber}
use Rattle.fdt_walk.specs.declared.Refusal.{Refusal}
use Rattle.fdt_walk.specs.declared.Refusal.TheVariants as refusal

abbrev pub number_of : Refusal → ℕ
number_of refusal.Header = 21
number_of (refusal.Unreadable reason) = unreadableNumber reason
number_of refusal.Depth = 25
