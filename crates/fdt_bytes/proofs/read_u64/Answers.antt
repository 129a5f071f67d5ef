-- `read_u64` meets its contract: it joins two words (`read_in_two`).
use mathlib.Core.Path.{sym}
use Rattle.fdt_bytes.proofs.BigEndian.{read_in_two}
use Rattle.fdt_bytes.proofs.read_u64.Goals as goal

pub returns : goal.returns
returns c =
    rw (c.from.ensures, c.from-2.ensures, c.read_u32.ensures, c.read_u32-2.ensures)
    (sym (read_in_two _ _ 4 4 c.requires))
