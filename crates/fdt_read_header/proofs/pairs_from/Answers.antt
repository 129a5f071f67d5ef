-- `pairs_from` counts pair by pair: the answer for what is left, plus the count so far, stays the same.
use mathlib.Core.Path.{sym, ◌∙◌}
use native.Mathlib.Omega.{arith}
use Rattle.fdt_read_header.proofs.Pairs.{starts, ends-here, another_pair, no_pair_left}
use Rattle.fdt_read_header.proofs.pairs_from.Goals as goal

pub loop-n-init : goal.loop-n-init
loop-n-init c = starts _ _ _

pub returns-then-zero_pair : goal.returns-then-zero_pair
returns-then-zero_pair c = sym (c.loop-n.invariant ∙ ends-here _ _ _ _ c.loop-n-test.true (sym c.zero_pair.ensures ∙ c.if-zero_pair.true))

pub loop-n-preserved : goal.loop-n-preserved
loop-n-preserved c = c.loop-n.invariant ∙ another_pair _ _ _ _ c.loop-n-test.true (sym c.zero_pair.ensures ∙ c.if-zero_pair.false)

pub returns : goal.returns
returns c = sym (c.loop-n.invariant ∙ no_pair_left _ _ _ _ (omega arith))
