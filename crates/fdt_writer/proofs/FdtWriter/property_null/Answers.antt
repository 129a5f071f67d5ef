-- `property_null` meets its contract: it is the property of no bytes.
use Rattle.fdt_calls.proofs.Called.{property_null_called}
use Rattle.fdt_writer.proofs.FdtWriter.property_null.Goals as goal

pub returns : goal.returns
returns c phandles = property_null_called (c.property.ensures phandles)
