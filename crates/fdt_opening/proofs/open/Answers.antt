-- `open` meets its contract: an opening whose tests all fail has room for what it writes, and a refused one writes nothing.
use Rattle.std.proofs.Common.{sym, ◌∙◌}
use Rattle.fdt_opening.proofs.Opening.{refused-outcome, accepted-outcome}
use Rattle.fdt_opening.proofs.open.Goals as goal

pub returns-in-Err : goal.returns-in-Err
returns-in-Err c =
    refused-outcome _ _ _ _ (sym c.opening_tests.ensures ∙ c.in-Err.is) _ c.closed.ensures

pub returns : goal.returns
returns c =
    accepted-outcome _ _ _ _ (sym c.opening_tests.ensures ∙ c.in_default.is) _ c.opened.ensures c.write_mem_rsvmap.ensures
