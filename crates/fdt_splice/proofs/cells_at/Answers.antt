-- `cells_at` meets its contract: after i turns the first i numbers are written.
use mathlib.Core.Path.{ap}
use Prim.Native.Nat.{ℕ, ◌+◌, ◌*◌}
use Rattle.fdt_bytes.proofs.Cells.{written_none, written-more}
use Rattle.fdt_splice.proofs.cells_at.Goals as goal

pub loop-i-init : goal.loop-i-init
loop-i-init g c = written_none

pub loop-i-preserved : goal.loop-i-preserved
loop-i-preserved g c =
    written-more
    g.met.T.Cell.sized
    c.requires
    c.loop-i.invariant
    c.loop-i-test.true
    (ap (λ (n : ℕ). c.args.at + n * c.loop-i.i) c.SIZE.ensures)
    c.index-cells-i.is
    c.append.ensures
