-- `property_array_u64` meets its contract: the call on the record ensures it of numbers.
use Rattle.fdt_calls.proofs.Called.{property_array_u64_called}
use Rattle.fdt_writer.proofs.FdtWriter.property_array_u64.Goals as goal

pub returns : goal.returns
returns c phandles = property_array_u64_called c.into.ensures c.write_property.ensures
