-- `new` meets its contract: it opens with no reservations.
use Rattle.fdt_calls.proofs.Called.{new_called}
use Rattle.fdt_writer.proofs.FdtWriter.new.Goals as goal

pub returns : goal.returns
returns c w = new_called (c.new_with_mem_reserv.ensures w)
