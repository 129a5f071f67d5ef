-- `property_string_list` meets its contract: the call on the record ensures it of strings.
use Rattle.fdt_calls.proofs.Called.{property_string-list_called}
use Rattle.fdt_writer.proofs.FdtWriter.property_string_list.Goals as goal

pub returns : goal.returns
returns c phandles = property_string-list_called c.into.ensures c.write_property.ensures
