-- What a call of the writer returns, as an outcome of the layers below.
use Rattle.fdt_record.specs.declared.Outcome.{Outcome}
use Rattle.fdt_writer.specs.declared.Answered.{Answered}

-- the answer and the record
abbrev pub outcome_of : {T : Type 0} → Answered T → Outcome T
outcome_of r = record { answer = r.answer; after = r.writer.0 }
