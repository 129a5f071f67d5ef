-- `begin_size` meets its contract: word 1, and the name with its 0 rounded up.
use Rattle.std.proofs.Common.{sym, ap, ◌∙◌, ◌+◌, ℕ, length, arith, lit<}
use Rattle.fdt_bytes.specs.Padding.{round_up}
use Rattle.fdt_bytes.proofs.Padding.{padding-small}
use Rattle.fdt_format.proofs.Tokens.{length-begin}
use Rattle.fdt_nodes.proofs.begin_size.Goals as goal

pub overflow_add-result : goal.overflow_add-result
unfolding round_up
overflow_add-result c =
    omega (arith, padding-small 4 (length c.args.name.now + 1) (lit< tt), c.round_up.ensures)

pub returns : goal.returns
returns c = ap (λ (n : ℕ). 4 + n) c.round_up.ensures ∙ sym (length-begin c.args.name.now)
