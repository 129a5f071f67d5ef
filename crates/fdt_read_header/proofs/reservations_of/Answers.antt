-- `reservations_of` counts the pairs that lie inside the blob.
use native.Mathlib.Omega.{arith}
use Rattle.fdt_format.specs.Reading.{read_reservations}
use Rattle.fdt_read_header.proofs.Pairs.{none_inside}
use Rattle.fdt_read_header.proofs.reservations_of.Goals as goal

pub returns-then-blob-at : goal.returns-then-blob-at
unfolding read_reservations
returns-then-blob-at c = none_inside _ _ _ (omega arith)

pub returns : goal.returns
unfolding read_reservations
returns c = c.pairs_from.ensures
