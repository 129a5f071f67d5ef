-- `begin_node` meets its contract: the call on the record ensures it.
use Rattle.fdt_calls.proofs.Called.{begin-node_called}
use Rattle.fdt_writer.proofs.FdtWriter.begin_node.Goals as goal

pub returns : goal.returns
returns c strings phandles = begin-node_called c.into.ensures c.begin_node.ensures
