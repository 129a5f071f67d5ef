-- `property` meets its contract: the call on the record ensures it of bytes.
use Rattle.fdt_calls.proofs.Called.{property_called}
use Rattle.fdt_writer.proofs.FdtWriter.property.Goals as goal

pub returns : goal.returns
returns c phandles = property_called c.into.ensures c.write_property.ensures
