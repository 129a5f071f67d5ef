-- `put_header` meets its contract: the first i words have been rewritten.
use Rattle.fdt_bytes.specs.BigEndian.{big_endian}
use Rattle.fdt_bytes.proofs.Cells.{Written}
use Rattle.fdt_finish.proofs.put_header.Given as goal

abbrev pub invariant-loop-i : goal.invariant-loop-i
invariant-loop-i l = Written (big_endian 4) 4 0 l.words l.initial.blob l.blob l.i
