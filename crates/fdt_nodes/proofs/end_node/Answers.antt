-- `end_node` meets its contract: where its tests are passed the word fits, and otherwise nothing changes.
use Rattle.std.proofs.Common.{sym, ◌∙◌, arith}
use Rattle.fdt_bytes.proofs.Splice.{lent}
use Rattle.fdt_format.specs.Tokens.{end_bytes}
use Rattle.fdt_nodes.proofs.End.{end_within, end_accepted, end_refused}
use Rattle.fdt_nodes.proofs.end_node.Goals as goal

pub returns-in-Err : goal.returns-in-Err
returns-in-Err c = end_refused _ _ _ (sym c.end_tests.ensures ∙ c.in-Err.is)

pub returns : goal.returns
unfolding end_bytes
returns c =
    let a = c.args in
    let e = sym c.end_tests.ensures ∙ c.in_default.is in
    end_accepted _ _ _ e _ c.after_end.ensures (lent a.w.blob_used end_bytes a.blob.now _ (omega (arith, (end_within _ _ _ e).0)) c.append_u32.ensures)
