-- `property_at` makes the tests in their order, and in cut strings one comparison decides on the name (`trimmed_decides`).
use native.Mathlib.Omega.{arith}
use borrow.Author.Tests.{le-leb, lt-leb}
use Rattle.fdt_format.specs.Step.{property_at}
use Rattle.fdt_format.proofs.Steps.{is_whole, size_none, size-whole}
use Rattle.fdt_read_token.proofs.Trimmed.{trimmed_decides}
use Rattle.fdt_read_token.proofs.property_at.Goals as goal

pub returns-in_default : goal.returns-in_default
unfolding property_at
returns-in_default c = rw (size_none _ _ _ c.property_size.ensures c.in_default.is)

pub read_u32-size-requires : goal.read_u32-size-requires
read_u32-size-requires c = let w = size-whole _ _ _ c.property_size.ensures c.in-Some.is in omega (arith, w.0.words)

pub read_u32-offset-requires : goal.read_u32-offset-requires
read_u32-offset-requires c = let w = size-whole _ _ _ c.property_size.ensures c.in-Some.is in omega (arith, w.0.words)

pub returns-then-a-name : goal.returns-then-a-name
unfolding property_at
returns-then-a-name c =
    let w = size-whole _ _ _ c.property_size.ensures c.in-Some.is in
    rw (is_whole _ _ _ w.0, ← c.read_u32-offset.ensures, trimmed_decides _ _ c.requires.0 _, le-leb _ _ c.if-a-name.true)

pub overflow_add-next : goal.overflow_add-next
overflow_add-next c =
    let w = size-whole _ _ _ c.property_size.ensures c.in-Some.is in
    omega (arith, w.0.ends, w.1)

pub returns : goal.returns
unfolding property_at
returns c =
    let w = size-whole _ _ _ c.property_size.ensures c.in-Some.is in
    rw (
      is_whole _ _ _ w.0,
      ← w.1,
      ← c.read_u32-size.ensures,
      ← c.read_u32-offset.ensures,
      trimmed_decides _ _ c.requires.0 _,
      lt-leb _ _ c.if-a-name.false,
    )
