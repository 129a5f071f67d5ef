-- `bytes_at` meets its contract: the front of the lent part is overwritten (`lent`).
use native.Mathlib.Omega.{arith}
use Rattle.fdt_bytes.proofs.Splice.{lent}
use Rattle.fdt_splice.proofs.bytes_at.Goals as goal

pub returns : goal.returns
returns c =
    lent c.args.at c.args.val.now c.args.blob.now _ (omega (arith, c.requires)) c.append_bytes.ensures
