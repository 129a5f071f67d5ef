-- `round_up` meets its contract: it adds the padding, which is less than the alignment.
use native.Mathlib.Omega.{arith}
use Rattle.fdt_bytes.specs.Padding.{round_up}
use Rattle.fdt_bytes.proofs.Padding.{padding-small}
use Rattle.fdt_bytes.proofs.round_up.Goals as goal

pub overflow_add-result : goal.overflow_add-result
overflow_add-result c =
    let a = c.args in
    rw c.padding_of.ensures (omega (arith, c.requires, padding-small a.alignment a.len c.requires.0))

pub returns : goal.returns
unfolding round_up
returns c = rw c.padding_of.ensures
