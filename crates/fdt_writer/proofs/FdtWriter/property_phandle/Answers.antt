-- `property_phandle` meets its contract: the call on the record ensures it.
use Rattle.fdt_calls.proofs.Called.{property-phandle_called}
use Rattle.fdt_writer.proofs.FdtWriter.property_phandle.Goals as goal

pub returns : goal.returns
returns c = property-phandle_called c.into.ensures c.property_phandle.ensures
