-- `pairs_from` counts pair by pair: the answer for what is left, plus the count so far, stays the same.
use mathlib.Core.Path.{◌≡◌}
use Rattle.fdt_format.specs.Reading.{reservations_at}
use Rattle.fdt_read_header.specs.Counted.{counted}
use Rattle.fdt_read_header.proofs.Pairs.{left}
use Rattle.fdt_read_header.proofs.pairs_from.Given as goal

abbrev pub invariant-loop-n : goal.invariant-loop-n
invariant-loop-n l = counted (reservations_at l.blob l.most l.from) ≡ left l.blob l.most l.from l.n
