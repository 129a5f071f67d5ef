-- `Values::each` ends, since each turn leaves less of the text; it keeps no more values than it is asked for.
use Rattle.std.proofs.Common.{◌≤◌, length, vec_len}
use Rattle.text_calls.proofs.values.Values.each.Given as goal

abbrev pub invariant-loop-word : goal.invariant-loop-word
invariant-loop-word g l = vec_len l.values ≤ l.most

abbrev pub decreases-loop-word : goal.decreases-loop-word
decreases-loop-word g l = length l.rest
