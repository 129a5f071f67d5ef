-- `property_string` meets its contract: it is the list of one string.
use Rattle.fdt_calls.proofs.Called.{property_string_called}
use Rattle.fdt_writer.proofs.FdtWriter.property_string.Goals as goal

pub returns : goal.returns
returns c phandles = property_string_called (c.property_string_list.ensures phandles)
