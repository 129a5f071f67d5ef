-- `finish` meets its contract: where its tests are passed what it writes fits, and otherwise nothing changes.
use Rattle.std.proofs.Common.{sym, ap, ◌∙◌}
use Rattle.fdt_record.specs.Answers.{Done}
use Rattle.fdt_record.specs.declared.Record.{Record}
use Rattle.fdt_record.proofs.Answers.{upon-done, upon-err, outcome-accepted, outcome-refused}
use Rattle.fdt_finish.specs.Finish.{finish, finish_blob}
use Rattle.fdt_finish.proofs.finish.Goals as goal

pub returns-in-Err : goal.returns-in-Err
unfolding finish finish_blob
returns-in-Err c =
    let e = sym c.finish_tests.ensures ∙ c.in-Err.is in
    record { result = outcome-refused _ _ e; bytes = sym (upon-err _ _ e) }

pub returns : goal.returns
unfolding finish finish_blob
returns c =
    let e = sym c.finish_tests.ensures ∙ c.in_default.is in
    record {
      result = ap (λ (w : Record). record { answer = Done; after = w }) c.after_finish.ensures ∙ outcome-accepted _ _ e;
      bytes = c.put_finish.ensures ∙ sym (upon-done _ _ _ e);
    }
