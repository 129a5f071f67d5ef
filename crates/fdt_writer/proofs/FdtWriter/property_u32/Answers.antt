-- `property_u32` meets its contract: it is the array of one number.
use Rattle.fdt_calls.proofs.Called.{property_u32_called}
use Rattle.fdt_writer.proofs.FdtWriter.property_u32.Goals as goal

pub returns : goal.returns
returns c phandles = property_u32_called (c.property_array_u32.ensures phandles)
