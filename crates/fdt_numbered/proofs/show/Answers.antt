-- `show` meets its contract: the length of the part that the writer shows.
use mathlib.Core.Path.{ap}
use lib.ListN.{length}
use Rattle.fdt_numbered.proofs.show.Goals as goal

pub returns : goal.returns
returns c strings phandles = ap length (c.show.ensures strings phandles).1
