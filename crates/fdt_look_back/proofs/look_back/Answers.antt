-- `look_back` meets its contract. The loop's invariant: the look back from the place is the look back from the start.
use mathlib.Core.Path.{sym, ◌∙◌}
use native.Mathlib.Omega.{arith}
use Rattle.fdt_format.proofs.LookBack.{look_none, look_found, look_on}
use Rattle.fdt_format.proofs.Steps.{size-whole}
use Rattle.fdt_look_back.proofs.look_back.Goals as goal

pub returns-in_default : goal.returns-in_default
returns-in_default c = sym (c.loop-size.invariant.2 ∙ look_none _ _ _ _ c.property_size.ensures c.in_default.is)

pub read_u32-requires : goal.read_u32-requires
read_u32-requires c = let w = size-whole _ _ _ c.property_size.ensures c.in-Some.is in omega (arith, w.0.words, c.requires.1)

pub returns-then-read_u32-offset : goal.returns-then-read_u32-offset
returns-then-read_u32-offset c =
    sym (c.loop-size.invariant.2
    ∙ look_found _ _ _ _ c.property_size.ensures c.in-Some.is (sym c.read_u32.ensures ∙ c.if-read_u32-offset.true))

pub overflow_add-at-in-loop-size : goal.overflow_add-at-in-loop-size
overflow_add-at-in-loop-size c = let w = size-whole _ _ _ c.property_size.ensures c.in-Some.is in omega (arith, w.1, w.0.ends)

pub loop-size-smaller : goal.loop-size-smaller
loop-size-smaller c = let w = size-whole _ _ _ c.property_size.ensures c.in-Some.is in omega (arith, w.1, w.0.ends)

pub loop-size-preserved : goal.loop-size-preserved
loop-size-preserved c =
    let w = size-whole _ _ _ c.property_size.ensures c.in-Some.is in (
      omega (arith, c.loop-size.invariant.0),
      omega (arith, w.1, w.0.ends),
      c.loop-size.invariant.2 ∙ look_on _ _ _ _ c.property_size.ensures c.in-Some.is (λ z. c.if-read_u32-offset.false (c.read_u32.ensures ∙ z)),
    )
