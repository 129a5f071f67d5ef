-- `first_entry` meets its contract. The invariant: no entry is before the place after `from`.
use Prim.Native.Nat.{◌+◌, ◌-◌, ◌≤◌}
use Rattle.fdt_search.specs.Clues.{CluesOf}
use Rattle.fdt_search.specs.FirstEntry.{NoEntry}
use Rattle.fdt_search.proofs.first_entry.Given as goal

abbrev pub invariant-loop-gap : goal.invariant-loop-gap
invariant-loop-gap l = (l.from ≤ l.gaps) × CluesOf l.name l.c × NoEntry l.s l.name (l.from + 1)

abbrev pub decreases-loop-gap : goal.decreases-loop-gap
decreases-loop-gap l = l.gaps - l.from
