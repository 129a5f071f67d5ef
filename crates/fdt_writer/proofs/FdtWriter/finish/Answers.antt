-- `finish` meets its contract: the call on the record ensures it.
use Rattle.fdt_calls.proofs.Called.{finish_called}
use Rattle.fdt_writer.proofs.FdtWriter.finish.Goals as goal

pub returns : goal.returns
returns c phandles = finish_called c.into.ensures c.finish.ensures
