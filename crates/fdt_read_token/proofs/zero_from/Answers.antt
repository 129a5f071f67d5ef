-- `zero_from` goes on byte by byte, and the first 0 from the place on is the first 0 from the start on.
use mathlib.Core.Path.{refl, sym, ◌∙◌}
use native.Mathlib.Omega.{arith}
use Rattle.fdt_format.proofs.Steps.{zero_none, zero_here, zero_on}
use Rattle.fdt_read_token.proofs.zero_from.Goals as goal

pub returns-then-end-at : goal.returns-then-end-at
returns-then-end-at c = sym (zero_none _ _ _ (omega arith))

pub returns-then-blob-place-eq0 : goal.returns-then-blob-place-eq0
returns-then-blob-place-eq0 c =
    sym (zero_here _ _ _ c.loop-place-test.true c.if-blob-place-eq0.true) ∙ c.loop-place.invariant.1

pub loop-place-init : goal.loop-place-init
loop-place-init c = (omega arith, refl)

pub loop-place-preserved : goal.loop-place-preserved
loop-place-preserved c =
    (omega arith, sym (zero_on _ _ _ c.loop-place-test.true c.if-blob-place-eq0.false) ∙ c.loop-place.invariant.1)

pub returns : goal.returns
returns c = omega (arith, c.loop-place.invariant.1, zero_none c.args.blob.now c.args.end c.loop-place.place c.loop-place-test.false)
