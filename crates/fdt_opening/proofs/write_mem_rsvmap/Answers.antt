-- `write_mem_rsvmap` meets its contract: three writes, each where the one before ended.
use Rattle.fdt_bytes.specs.BigEndian.{cell_bytes}
use Rattle.fdt_opening.proofs.Opening.{three_writes}
use Rattle.fdt_opening.proofs.write_mem_rsvmap.Goals as goal

pub returns : goal.returns
unfolding cell_bytes
returns c =
    three_writes _ _ _ _ _ c.requires c.zeros_at.ensures c.cells_at.ensures c.zeros_at-2.ensures
