-- `same_plain` meets its contract. The invariant: `good` is true exactly if the bytes before `i` are those of the name and not 0.
use Rattle.std.proofs.Common.{◌≡◌, true, ℕ, ◌-◌, ◌≤◌, ◌<◌, length}
use mathlib.Core.Logic.{◌↔◌}
use Rattle.fdt_search.specs.FirstEntry.{PlainByte}
use Rattle.fdt_search.proofs.same_plain.Given as goal

abbrev pub invariant-loop-i : goal.invariant-loop-i
invariant-loop-i l = (l.i ≤ length l.name) × (l.good ≡ true ↔ ((k : ℕ) → k < l.i → PlainByte l.s l.name l.place k))

abbrev pub decreases-loop-i : goal.decreases-loop-i
decreases-loop-i l = length l.name - l.i
