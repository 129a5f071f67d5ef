-- `texts_at` meets its contract: the first strings have been written, and the next one lies within the bytes and fits.
use Rattle.fdt_values.proofs.Texts.{TextsWritten}
use Rattle.fdt_values.proofs.texts_at.Given as goal

abbrev pub invariant-loop-n : goal.invariant-loop-n
invariant-loop-n l = TextsWritten l.at l.joined l.lengths l.initial.blob l.blob l.to l.start l.n-index
