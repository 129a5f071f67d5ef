-- `after_last_zero` goes back byte by byte, as the definition does.
use mathlib.Core.Path.{◌≡◌}
use Prim.Native.Nat.{◌-◌, ◌≤◌}
use Rattle.fdt_read_token.specs.Trimmed.{after_last_zero}
use Rattle.fdt_read_token.proofs.after_last_zero.Given as goal

abbrev pub invariant-loop-last : goal.invariant-loop-last
invariant-loop-last l = (l.from ≤ l.last) × (after_last_zero l.blob l.from (l.to - l.from) ≡ after_last_zero l.blob l.from (l.last - l.from))
