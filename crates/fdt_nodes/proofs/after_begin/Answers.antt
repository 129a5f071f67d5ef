-- `after_begin` meets its contract: the sum of the used length and the size of the beginning fits.
use Rattle.std.proofs.Common.{◌+◌, length, arith, lit<}
use Rattle.fdt_bytes.proofs.Padding.{padding-small}
use Rattle.fdt_nodes.proofs.Begin.{begin_parts}
use Rattle.fdt_nodes.proofs.after_begin.Goals as goal

pub overflow_add-blob_used : goal.overflow_add-blob_used
overflow_add-blob_used c =
    let name = c.args.name.now in
    omega (arith, c.begin_size.ensures, begin_parts name, padding-small 4 (length name + 1) (lit< tt))
