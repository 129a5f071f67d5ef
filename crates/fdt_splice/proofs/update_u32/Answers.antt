-- `update_u32` meets its contract: the front of the lent part is overwritten (`lent`).
use native.Mathlib.Omega.{arith}
use Rattle.fdt_bytes.specs.BigEndian.{big_endian}
use Rattle.fdt_bytes.proofs.Splice.{lent}
use Rattle.fdt_splice.proofs.update_u32.Goals as goal

pub returns : goal.returns
returns c =
    lent c.args.offset (big_endian 4 c.args.val) c.args.blob.now _ (omega (arith, c.requires)) c.append_u32.ensures
