-- `Values::strings` ends, since each string leaves less of the text; the lengths add up to the bytes, and no more are kept than there may be.
use Rattle.std.proofs.Common.{◌≡◌, ◌≤◌, length, sum, vec_len}
use Rattle.text_calls.proofs.values.Values.strings.Given as goal

abbrev pub invariant-loop-rest : goal.invariant-loop-rest
invariant-loop-rest l = (sum l.lengths.items ≡ vec_len l.bytes) × (vec_len l.bytes ≤ 65536) × (vec_len l.lengths ≤ 65536)

abbrev pub decreases-loop-rest : goal.decreases-loop-rest
decreases-loop-rest l = length l.rest
