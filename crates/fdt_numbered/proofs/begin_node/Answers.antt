-- `begin_node` meets its contract: the writer's call ensures it of the answer and the handle, whose numbers are returned and stored.
use Rattle.std.proofs.Common.{sym, ap, ◌∙◌}
use Rattle.fdt_record.proofs.Answers.{number-of_answer}
use Rattle.fdt_calls.proofs.Made.{handle_or_0, begun_handle}
use Rattle.fdt_numbered.proofs.Made.{called_made}
use Rattle.fdt_numbered.proofs.begin_node.Goals as goal
use Rattle.fdt_numbered.proofs.begin_node.Goals.{in-Ok, in-Err}

pub returns : goal.returns
returns c strings phandles =
    let p = c.begin_node-r.ensures strings phandles in
    let h = begun_handle c.begin_node-r.result.answer p.0 p.1 in (
      called_made p.0 (c.into.ensures.0 ∙ sym (number-of_answer c.begin_node-r.result.answer), c.into.ensures.1),
      elim c.match-r.branch [
        | in-Ok w ↦ w.node-is ∙ sym (ap handle_or_0 w.in-Ok.is) ∙ h
        | in-Err w ↦ w.node-is ∙ sym (ap handle_or_0 w.in-Err.is) ∙ h
      ],
    )
