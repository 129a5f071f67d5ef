-- `gap_between` meets its contract. The invariant: no gap before `gap` has the clues.
use Rattle.fdt_search.specs.Clues.{Nowhere}
use Rattle.fdt_search.proofs.gap_between.Given as goal

abbrev pub invariant-loop-gap : goal.invariant-loop-gap
invariant-loop-gap l = Nowhere l.s l.c l.from l.gap
