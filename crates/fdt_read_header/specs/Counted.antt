-- The answer on a blob's reservations: how many there are, or refusal 22.
use Rattle.std.specs.Prelude.{List, [], ◌∷◌, ℕ, length, Result, Ok, Err}
use Rattle.std.proofs.Math.Option.{Option, none, some}
use Rattle.fdt_format.specs.declared.Unreadable.{Unreadable}
use Rattle.fdt_format.specs.declared.Unreadable.TheVariants as unreadable
use Rattle.fdt_format.specs.Description.{Reservation}
use Rattle.fdt_format.specs.Refusals.{number_of as refusalNumber}

-- their count, or the refusal if no all-zero pair ends them
unfoldable pub counted : Option (List Reservation) → Result ℕ Unreadable
counted none = Err unreadable.Reservations
counted (some rs) = Ok (length rs)

-- the number of an answer
unfoldable pub number_of : Result ℕ Unreadable → ℕ
number_of (Ok n) = 0
number_of (Err r) = refusalNumber r

-- the values that an answer carries
unfoldable pub values_of : Result ℕ Unreadable → List ℕ
values_of (Ok n) = n ∷ []
values_of (Err r) = []
