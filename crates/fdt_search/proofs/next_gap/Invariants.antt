-- `next_gap` meets its contract. The invariant: no gap before the block has the clues.
use Prim.Native.Nat.{◌+◌, ◌*◌}
use Rattle.fdt_search.specs.Clues.{Nowhere}
use Rattle.fdt_search.proofs.next_gap.Given as goal

abbrev pub invariant-loop-i : goal.invariant-loop-i
invariant-loop-i l = Nowhere l.s l.c l.from (l.from + 32 * l.i)
