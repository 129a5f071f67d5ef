-- `after_last_zero` goes back byte by byte, as the definition does.
use mathlib.Core.Path.{sym, ◌∙◌}
use native.Mathlib.Omega.{arith}
use Rattle.fdt_read_token.proofs.Trimmed.{last_none, last-here, last-before}
use Rattle.fdt_read_token.proofs.after_last_zero.Goals as goal

pub returns-then-blob-last-eq0 : goal.returns-then-blob-last-eq0
returns-then-blob-last-eq0 c = omega (arith, c.loop-last.invariant.1, last-here _ _ _ c.loop-last-test.true c.if-blob-last-eq0.true)

pub loop-last-preserved : goal.loop-last-preserved
loop-last-preserved c =
    (omega arith, c.loop-last.invariant.1 ∙ last-before _ _ _ c.loop-last-test.true c.if-blob-last-eq0.false)

pub returns : goal.returns
returns c = sym (c.loop-last.invariant.1 ∙ last_none _ _ _ (omega arith))
