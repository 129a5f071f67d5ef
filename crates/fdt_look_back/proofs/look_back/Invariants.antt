-- `look_back` meets its contract. The loop's invariant: the look back from the place is the look back from the start.
use mathlib.Core.Path.{◌≡◌}
use Prim.Native.Nat.{◌-◌, ◌≤◌}
use Rattle.fdt_format.specs.LookBack.{look_back}
use Rattle.fdt_look_back.proofs.look_back.Given as goal

abbrev pub invariant-loop-size : goal.invariant-loop-size
invariant-loop-size l = (l.start ≤ l.at) × (l.at ≤ l.end) × (look_back l.blob l.end l.offset l.start ≡ look_back l.blob l.end l.offset l.at)

abbrev pub decreases-loop-size : goal.decreases-loop-size
decreases-loop-size l = l.end - l.at
