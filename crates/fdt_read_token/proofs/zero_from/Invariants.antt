-- `zero_from` goes on byte by byte, and the first 0 from the place on is the first 0 from the start on.
use mathlib.Core.Path.{◌≡◌}
use Prim.Native.Nat.{◌-◌, ◌≤◌}
use Rattle.fdt_format.specs.Step.{zero_from}
use Rattle.fdt_read_token.proofs.zero_from.Given as goal

abbrev pub invariant-loop-place : goal.invariant-loop-place
invariant-loop-place l = (l.place ≤ l.end) × (zero_from l.blob (l.end - l.place) l.place ≡ zero_from l.blob (l.end - l.at) l.at)

abbrev pub decreases-loop-place : goal.decreases-loop-place
decreases-loop-place l = l.end - l.place
