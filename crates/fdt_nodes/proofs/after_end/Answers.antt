-- `after_end` meets its contract: word 2 takes 4 bytes.
use Rattle.fdt_format.proofs.Tokens.{length-end}
use Rattle.fdt_nodes.specs.End.{ended_record}
use Rattle.fdt_nodes.proofs.after_end.Goals as goal

pub returns : goal.returns
unfolding ended_record
returns c = simp length-end
