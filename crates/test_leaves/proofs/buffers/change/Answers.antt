-- `buffers::change` is safe: a name is stored only where it fits with its 0, and less than 4 zeros bring a length to a multiple of 4.
use Rattle.std.proofs.Common.{arith, rules}
use Rattle.fdt_bytes.specs.Padding.{padding}
use Rattle.fdt_strings.proofs.Entries.{length-entry}
use Rattle.test_leaves.proofs.buffers.change.Goals as goal

pub store_string-requires : goal.store_string-requires
store_string-requires c = omega (arith, length-entry c.args.bytes.now)

pub align-requires-clause-room : goal.align-requires-clause-room
unfolding padding
align-requires-clause-room c = search rules
