-- `some_invalid` meets its contract: no reservation that was passed is refused, and one that is ends the search.
use Rattle.std.proofs.Common.{◌≡◌, sym, refl, ◌∙◌, arith}
use Rattle.fdt_reserve.specs.Overlap.{some_below}
use Rattle.fdt_reserve.proofs.Overlap.{some_at, some_more}
use Rattle.fdt_opening.specs.Opening.{count, some_invalid}
use Rattle.fdt_opening.proofs.Opening.{refused_by_test}
use Rattle.fdt_opening.proofs.some_invalid.Goals as goal

pub loop-i-init : goal.loop-i-init
unfolding some_below
loop-i-init c = refl

pub returns-then-is_err : goal.returns-then-is_err
unfolding some_invalid
returns-then-is_err c =
    let t = refused_by_test _ _ _ _ c.entry_at-e.ensures c.new.ensures in
    sym (some_at _ _ c.loop-i.i c.loop-i-test.true (sym t ∙ sym c.is_err.ensures.value ∙ c.if-is_err.true))

pub loop-i-preserved : goal.loop-i-preserved
loop-i-preserved c =
    let t = refused_by_test _ _ _ _ c.entry_at-e.ensures c.new.ensures in
    some_more _ c.loop-i.i c.loop-i.invariant (sym t ∙ sym c.is_err.ensures.value ∙ c.if-is_err.false)

pub returns : goal.returns
unfolding some_invalid
returns c =
    let e : c.loop-i.i ≡ count c.args.mem_reservations.now = omega arith in
    sym (rw e at c.loop-i.invariant)
