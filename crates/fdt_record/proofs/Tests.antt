-- A usable length compared with the recorded one, as a Bool.
use mathlib.Core.Path.{◌≡◌, sym, ◌∙◌}
use mathlib.Core.Bool.{true}
use Prim.Native.Nat.{ℕ}
use borrow.Author.Tests.{eq-eqb}
use lib.Dec.{eqb}
use Rattle.fdt_record.specs.Limits.{usable}

-- the computed length is the usable one, and the recorded room equals it
pub usable_is : (ceiling lent room : ℕ) {r : ℕ} → r ≡ usable ceiling lent → r ≡ room → eqb (usable ceiling lent) room ≡ true
usable_is ceiling lent room computed e = eq-eqb (usable ceiling lent) room (sym computed ∙ e)
