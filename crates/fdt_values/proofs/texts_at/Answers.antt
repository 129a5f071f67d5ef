-- `texts_at` meets its contract: the first i strings have been written, and the next one lies within the bytes and fits.
use native.Mathlib.Omega.{arith}
use Rattle.fdt_values.proofs.Texts.{texts-written_none, texts-written-more, next-within, next_fits, length-next}
use Rattle.fdt_values.proofs.texts_at.Goals as goal

pub store_string-requires : goal.store_string-requires
store_string-requires c = omega (arith, (next_fits c.requires.lengths_sum c.requires.room c.loop-n.invariant c.loop-n-test.true), (length-next c.requires.lengths_sum c.requires.room c.loop-n.invariant c.loop-n-test.true))

pub loop-n-init : goal.loop-n-init
loop-n-init c = texts-written_none

pub overflow_add-end : goal.overflow_add-end
overflow_add-end c = omega (arith, next-within c.requires.lengths_sum c.requires.room c.loop-n.invariant c.loop-n-test.true)

pub slice_bounds-store_string-end : goal.slice_bounds-store_string-end
slice_bounds-store_string-end c = next-within c.requires.lengths_sum c.requires.room c.loop-n.invariant c.loop-n-test.true

pub overflow_add-to-in-loop-n : goal.overflow_add-to-in-loop-n
overflow_add-to-in-loop-n c = omega (arith, next_fits c.requires.lengths_sum c.requires.room c.loop-n.invariant c.loop-n-test.true)

pub loop-n-preserved : goal.loop-n-preserved
loop-n-preserved c =
    texts-written-more c.requires.lengths_sum c.requires.room c.loop-n.invariant c.loop-n-test.true c.store_string.ensures
