-- `sums_to` meets its contract: what is left and the lengths passed make the total.
use native.Mathlib.Omega.{arith}
use Rattle.fdt_values.specs.Value.{sum}
use Rattle.fdt_values.proofs.Values.{sum_more, too_little}
use Rattle.fdt_values.proofs.sums_to.Goals as goal

pub loop-n-init : goal.loop-n-init
unfolding sum
loop-n-init c = omega arith

pub returns-then-left-n : goal.returns-then-left-n
returns-then-left-n c = too_little _ _ _ _ c.loop-n-test.true c.loop-n.invariant c.if-left-n.true

pub loop-n-preserved : goal.loop-n-preserved
loop-n-preserved c = omega (arith, sum_more c.args.lengths.now c.loop-n.n-index c.loop-n-test.true)
