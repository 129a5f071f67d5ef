-- `new_with_mem_reserv` meets its contract: opening with the reservations ensures it.
use Rattle.fdt_calls.proofs.Called.{new_with_mem_reserv_called}
use Rattle.fdt_writer.proofs.FdtWriter.new_with_mem_reserv.Goals as goal

pub returns : goal.returns
returns c w = new_with_mem_reserv_called c.into.ensures c.«open».ensures
