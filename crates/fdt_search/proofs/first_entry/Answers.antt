-- `first_entry` meets its contract. The invariant: no entry is before the place after `from`.
use mathlib.Core.Path.{sym, ◌∙◌}
use mathlib.Core.Bool.{true≢false}
use Prim.Native.Nat.{◌+◌}
use native.Mathlib.Omega.{arith}
use borrow.Author.Count.{below_more}
use Rattle.fdt_search.proofs.Search.{no_entry_nowhere}
use Rattle.fdt_search.proofs.first_entry.Goals as goal

pub returns-then-entry_at : goal.returns-then-entry_at
returns-then-entry_at c =
    let i = c.loop-gap.invariant in
    (c.entry_at.ensures.0 c.if-entry_at.true, no_entry_nowhere _ _ _ _ _ i.1 i.2 c.in-Some.ensures.2)

pub loop-gap-preserved : goal.loop-gap-preserved
loop-gap-preserved c =
    let i = c.loop-gap.invariant in
    let none = no_entry_nowhere _ _ _ _ _ i.1 i.2 c.in-Some.ensures.2 in
    (omega (arith, c.in-Some.ensures), c.sharper-c.ensures, below_more _ (c.in-Some.gap + 1) none (λ w. true≢false (sym (c.entry_at.ensures.1 w) ∙ c.if-entry_at.false)))

pub returns : goal.returns
returns c place l w =
    let i = c.loop-gap.invariant in
    no_entry_nowhere _ _ _ _ _ i.1 i.2 c.in_default.ensures place (omega (arith, w.fits)) w
