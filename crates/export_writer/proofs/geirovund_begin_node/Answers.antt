-- `geirovund_begin_node` meets its contract: the number is returned and the writer is stored as the call by value returns them.
use Rattle.export_writer.proofs.geirovund_begin_node.Goals as goal

pub returns : goal.returns
returns c strings phandles = rw (c.stored.ensures.0, c.stored.ensures.1) (c.begin_node.ensures strings phandles)
