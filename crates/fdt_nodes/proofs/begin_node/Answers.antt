-- `begin_node` meets its contract: where its tests are passed the bytes fit, and otherwise nothing changes.
use Rattle.std.proofs.Common.{sym, ◌∙◌, arith}
use Rattle.fdt_bytes.proofs.Splice.{lent}
use Rattle.fdt_format.specs.Tokens.{begin_bytes}
use Rattle.fdt_nodes.proofs.Begin.{begin_within, begin_accepted, begin_refused}
use Rattle.fdt_nodes.proofs.begin_node.Goals as goal

pub returns-in-Err : goal.returns-in-Err
returns-in-Err c = begin_refused _ _ _ (sym c.begin_tests.ensures ∙ c.in-Err.is)

pub returns : goal.returns
returns c =
    let a = c.args in
    let e = sym c.begin_tests.ensures ∙ c.in_default.is in
    begin_accepted _ _ _ e _ c.after_begin-after.ensures (lent a.w.blob_used (begin_bytes a.name.now) a.blob.now _ (omega (arith, (begin_within _ _ _ e).0)) c.put_begin.ensures)
