-- `show` meets its contract: the call on the record ensures it.
use Rattle.fdt_calls.proofs.Called.{show_called}
use Rattle.fdt_writer.proofs.FdtWriter.show.Goals as goal

pub returns : goal.returns
returns c strings phandles = show_called c.show.ensures
