-- `put_final` meets its contract: the word, and the strings where it ended.
use native.Mathlib.Omega.{arith}
use Rattle.fdt_bytes.proofs.Splice.{lent}
use Rattle.fdt_finish.proofs.Finishing.{put_final}
use Rattle.fdt_finish.proofs.put_final.Goals as goal

pub returns : goal.returns
returns c =
    put_final c.args.strings.now c.args.rest.now _ _ (omega (arith, c.requires)) c.append_u32.ensures
    (lent 4 c.args.strings.now c.append_u32.new.rest _ (omega (arith, c.requires)) c.append_bytes.ensures)
