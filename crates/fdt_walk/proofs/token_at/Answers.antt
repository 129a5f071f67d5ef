-- `token_at` returns the token that is read after words 4, unless it opens one node too many: word by word, the token that is taken stays the same.
use native.Mathlib.Omega.{arith}
use Rattle.fdt_walk.proofs.Walked.{takes_final, takes_bad, takes_deep, takes_entry, takes_skip}
use Rattle.fdt_walk.proofs.token_at.Goals as goal

pub loop-here-init : goal.loop-here-init
loop-here-init c = (c.requires.1, λ r h. h)

pub overflow_add-here : goal.overflow_add-here
overflow_add-here c =
    let inside = c.requires.0.inside in
    omega (arith, (takes_skip c.step_at-read.ensures c.in-Skip.is).0.within, inside.structure, inside.small)

pub loop-here-smaller : goal.loop-here-smaller
loop-here-smaller c =
    omega (arith, (takes_skip c.step_at-read.ensures c.in-Skip.is).0.within)

pub loop-here-preserved : goal.loop-here-preserved
loop-here-preserved c =
    let inv = c.loop-here.invariant in
    let skip = takes_skip c.step_at-read.ensures c.in-Skip.is in
    (record { within = skip.0.within; shallow = omega (arith, inv.0.shallow) }, λ r h. inv.1 r (skip.1 r h))

pub returns-in-Final : goal.returns-in-Final
returns-in-Final c =
    c.loop-here.invariant.1 _ (takes_final c.step_at-read.ensures c.in-Final.is)

pub returns-in-Bad : goal.returns-in-Bad
returns-in-Bad c =
    c.loop-here.invariant.1 _ (takes_bad c.step_at-read.ensures c.in-Bad.is)

pub returns-then-next-gt-MOST_OPEN : goal.returns-then-next-gt-MOST_OPEN
returns-then-next-gt-MOST_OPEN c =
    c.loop-here.invariant.1 _ (takes_deep c.step_at-read.ensures c.in-Entry.is c.if-next-gt-MOST_OPEN.true)

pub returns-in-Entry : goal.returns-in-Entry
returns-in-Entry c =
    c.loop-here.invariant.1 _ (takes_entry c.step_at-read.ensures c.in-Entry.is c.if-next-gt-MOST_OPEN.false)
