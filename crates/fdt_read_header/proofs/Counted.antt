-- The answer on a blob's reservations by its number and its values: 22 exactly if no all-zero pair ends them, otherwise their count.
use mathlib.Core.Path.{◌≡◌, refl}
use mathlib.Core.List.{List, [], ◌∷◌}
use mathlib.Core.Logic.{◌↔◌}
use mathlib.Core.Option.{Option, none, some}
use native.Mathlib.Omega.{arith}
use lib.ListN.{length}
use Rattle.fdt_format.specs.Description.{Reservation}
use Rattle.fdt_read_header.specs.Counted.{counted, number_of, values_of}

pub counted-refused : (rs : Option (List Reservation)) → (number_of (counted rs) ≡ 22) ↔ (rs ≡ none)
unfolding counted number_of
counted-refused none = (λ h. refl, λ h. refl)
counted-refused (some rs) = (λ h. absurd (omega arith), λ h. cc)

pub counted-values : (rs : List Reservation) → values_of (counted (some rs)) ≡ length rs ∷ []
unfolding counted values_of
counted-values rs = refl
