-- `property_u64` meets its contract: it is the array of one number.
use Rattle.fdt_calls.proofs.Called.{property_u64_called}
use Rattle.fdt_writer.proofs.FdtWriter.property_u64.Goals as goal

pub returns : goal.returns
returns c phandles = property_u64_called (c.property_array_u64.ensures phandles)
