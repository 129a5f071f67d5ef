-- `check_overlapping` meets its contract. The outer invariant: each reservation before `i` shares no address with any after it; the inner: `i` shares none with those before `j`.
use mathlib.Core.Path.{◌≡◌}
use mathlib.Core.Bool.{false}
use Prim.Native.Nat.{ℕ, ◌<◌}
use Rattle.fdt_reserve.proofs.Overlap.{Clear}
use Rattle.fdt_reserve.proofs.check_overlapping.Given as goal

abbrev pub invariant-loop-j : goal.invariant-loop-j
invariant-loop-j l = (l.overlapping ≡ false) × Clear l.mem_reservations l.i l.j

abbrev pub invariant-pairs : goal.invariant-pairs
invariant-pairs l = (l.overlapping ≡ false) × ((k : ℕ) → k < l.i → Clear l.mem_reservations k l.n)
