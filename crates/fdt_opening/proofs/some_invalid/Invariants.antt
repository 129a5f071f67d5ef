-- `some_invalid` meets its contract: no reservation that was passed is refused, and one that is ends the search.
use Rattle.std.proofs.Common.{◌≡◌, false}
use Rattle.fdt_reserve.specs.Entry.{invalid}
use Rattle.fdt_reserve.specs.Overlap.{start, size, some_below}
use Rattle.fdt_opening.proofs.some_invalid.Given as goal

abbrev pub invariant-loop-i : goal.invariant-loop-i
invariant-loop-i l = some_below l.i (λ k. invalid (start l.mem_reservations k) (size l.mem_reservations k)) ≡ false
