-- `nowhere` meets its contract. The invariant: `none` is true exactly if none of the gaps before `from + k` has the clues.
use mathlib.Core.Path.{◌≡◌}
use mathlib.Core.Bool.{true}
use mathlib.Core.Logic.{◌↔◌}
use Prim.Native.Nat.{◌+◌}
use Rattle.fdt_search.specs.Clues.{Nowhere}
use Rattle.fdt_search.proofs.nowhere.Given as goal

abbrev pub invariant-loop-k : goal.invariant-loop-k
invariant-loop-k l = l.none ≡ true ↔ Nowhere l.s l.c l.from (l.from + l.k)
