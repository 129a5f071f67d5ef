-- `put_header` meets its contract: the first i words have been rewritten.
use Rattle.std.proofs.Common.{arith}
use Rattle.fdt_bytes.specs.BigEndian.{cell_bytes}
use Rattle.fdt_bytes.proofs.Cells.{written_none, written_all}
use Rattle.fdt_finish.proofs.Finishing.{word_more}
use Rattle.fdt_finish.proofs.put_header.Goals as goal

pub loop-i-init : goal.loop-i-init
loop-i-init c = written_none

pub loop-i-preserved : goal.loop-i-preserved
loop-i-preserved c =
    word_more c.requires c.loop-i.invariant c.loop-i-test.true c.update_u32.ensures

pub returns : goal.returns
unfolding cell_bytes
returns c = written_all c.loop-i.invariant (omega arith)
