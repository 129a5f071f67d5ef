-- `read` surveys, tests the room of the list, and then fills it.
use Rattle.std.proofs.lemmas.Result.{err_from_is_err_and}
use Rattle.fdt_reader.proofs.Seen.{seen_readable, seen_ready, reads-refused, reads_short, reads-done}
use Rattle.fdt_reader.proofs.read.Goals as goal

pub returns-in_err-seen : goal.returns-in_err-seen
returns-in_err-seen c =
    let p = err_from_is_err_and c.from_residual.result c.from_residual.ensures.1 in
    rw (p.1, p.2) (reads-refused _ _ c.in_err-seen.ensures)

pub returns-then-list-seen : goal.returns-then-list-seen
returns-then-list-seen c = reads_short _ _ (seen_readable _ c.in_ok-seen.ensures) c.if-list-seen.true

pub children-requires : goal.children-requires
children-requires c =
    let ready = seen_ready _ (seen_readable _ c.in_ok-seen.ensures) c.type_inv.blob in
    (ready.0, rw c.first.ensures ready.1)

pub returns : goal.returns
returns c = reads-done _ _ (seen_readable _ c.in_ok-seen.ensures) _ c.if-list-seen.false (rw c.first.ensures at c.children.ensures)
