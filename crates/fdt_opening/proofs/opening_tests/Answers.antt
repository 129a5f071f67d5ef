-- `opening_tests` meets its contract: that some address lies in two reservations is the test of its row.
use Rattle.std.proofs.Common.{arith}
use Rattle.fdt_reserve.proofs.Overlap.{overlap_told}
use Rattle.fdt_record.specs.Rows.{first}
use Rattle.fdt_opening.specs.Opening.{opening_rows, opening_answer}
use Rattle.fdt_opening.proofs.opening_tests.Goals as goal

pub returns-then-check_overlapping : goal.returns-then-check_overlapping
unfolding first opening_rows opening_answer
returns-then-check_overlapping c = let o = overlap_told _ _ c.check_overlapping.ensures in grind arith

pub returns-then-overfull : goal.returns-then-overfull
unfolding first opening_rows opening_answer
returns-then-overfull c = let o = overlap_told _ _ c.check_overlapping.ensures in grind arith

pub returns : goal.returns
unfolding first opening_rows opening_answer
returns c = let o = overlap_told _ _ c.check_overlapping.ensures in grind arith
