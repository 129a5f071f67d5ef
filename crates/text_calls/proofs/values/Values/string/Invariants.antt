-- `Values::string` ends, since each turn leaves less of the text; it takes no bytes away, and keeps no more than 65,536.
use Rattle.std.proofs.Common.{◌≤◌, length, vec_len}
use Rattle.text_calls.proofs.values.Values.string.Given as goal

abbrev pub invariant-loop-rest : goal.invariant-loop-rest
invariant-loop-rest l = (length l.rest ≤ length l.text) × (vec_len l.initial.bytes ≤ vec_len l.bytes) × (vec_len l.bytes ≤ 65536)

abbrev pub decreases-loop-rest : goal.decreases-loop-rest
decreases-loop-rest l = length l.rest
