-- `zeros_at` meets its contract: the front of the lent part is overwritten (`lent`).
use native.Mathlib.Omega.{arith}
use Rattle.fdt_bytes.specs.Padding.{zeros}
use Rattle.fdt_bytes.proofs.Splice.{lent}
use Rattle.fdt_splice.proofs.zeros_at.Goals as goal

pub returns : goal.returns
returns c =
    lent c.args.at (zeros c.args.num_bytes) c.args.blob.now _ (omega (arith, c.requires)) c.pad.ensures
