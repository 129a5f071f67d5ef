-- `end_node` meets its contract: the call on the record ensures it.
use Rattle.fdt_calls.proofs.Called.{end-node_called}
use Rattle.fdt_writer.proofs.FdtWriter.end_node.Goals as goal

pub returns : goal.returns
returns c strings phandles = end-node_called c.into.ensures c.end_node.ensures
