-- `cells_at` meets its contract: after i turns the first i numbers are written.
use Rattle.fdt_bytes.proofs.Cells.{Written}
use Rattle.fdt_splice.proofs.cells_at.Given as goal

abbrev pub invariant-loop-i : goal.invariant-loop-i
invariant-loop-i g l = Written g.T.Cell.bytes g.T.Cell.SIZE l.at l.cells l.initial.blob l.blob l.i
