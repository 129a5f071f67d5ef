-- `put_finish` meets its contract: word 9 and the used strings in the rest, and the header in front.
use mathlib.Core.Path.{◌∙◌}
use Prim.Native.Nat.{◌+◌}
use native.Mathlib.Omega.{arith}
use lib.ListN.{length-take, length-drop}
use lib.Seq.{length-take-le}
use Rattle.fdt_bytes.proofs.Splice.{lent}
use Rattle.fdt_header.proofs.HeaderBytes.{words_by_start}
use Rattle.fdt_format.specs.Tokens.{final_bytes}
use Rattle.fdt_finish.specs.Finish.{used_strings}
use Rattle.fdt_finish.proofs.Finishing.{finished_by_parts}
use Rattle.fdt_finish.proofs.put_finish.Goals as goal

pub slice_bounds-put_final-end-2 : goal.slice_bounds-put_final-end-2
slice_bounds-put_final-end-2 c =
    let a = c.args in omega (arith, length-take-le a.w.strings_used a.strings.now (omega arith))

pub put_final-requires : goal.put_final-requires
put_final-requires c = simp (length-take, length-drop) (omega (arith, c.requires))

pub returns : goal.returns
unfolding used_strings
returns c =
    let a = c.args in
    finished_by_parts a.w a.blob.now a.strings.now
    (lent a.w.blob_used (final_bytes (used_strings a.w a.strings.now)) a.blob.now _ (omega (arith, c.requires)) c.put_final.ensures)
    (c.words.ensures ∙ words_by_start a.w.reservations (a.w.blob_used + 4) a.w.strings_used a.w.boot_cpuid_phys c.structure_start.ensures)
    c.put_header.ensures
