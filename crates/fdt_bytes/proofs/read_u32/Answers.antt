-- `read_u32` meets its contract: it sums the four bytes of the word (`word_bytes`).
use mathlib.Core.Path.{sym}
use Rattle.fdt_bytes.proofs.BigEndian.{word_bytes}
use Rattle.fdt_bytes.proofs.read_u32.Goals as goal

pub returns : goal.returns
returns c =
    rw (c.widened.ensures.0, c.widened-2.ensures.0, c.widened-3.ensures.0, c.widened-4.ensures.0)
    (sym (word_bytes _ _ c.requires))
