-- `trim` replaces the end of the strings.
use Rattle.fdt_read_token.specs.Trimmed.{trimmed_end, trimmed}
use Rattle.fdt_read_token.proofs.trim.Goals as goal

pub returns : goal.returns
unfolding trimmed trimmed_end
returns c = rw (← c.after_last_zero.ensures)
