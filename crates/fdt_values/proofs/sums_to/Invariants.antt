-- `sums_to` meets its contract: what is left and the lengths passed make the total.
use mathlib.Core.Path.{◌≡◌}
use Prim.Native.Nat.{◌+◌}
use lib.ListN.{take}
use Rattle.fdt_values.specs.Value.{sum}
use Rattle.fdt_values.proofs.sums_to.Given as goal

abbrev pub invariant-loop-n : goal.invariant-loop-n
invariant-loop-n l = l.left + sum (take l.n-index l.lengths) ≡ l.total
