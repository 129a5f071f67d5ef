-- What setting the boot number answers and leaves (document 01: it tests 18, 17).
use Rattle.std.specs.Prelude.{ℕ}
use Rattle.fdt_record.specs.declared.Outcome.{Outcome}
use Rattle.fdt_record.specs.declared.Record.{Record}
use Rattle.fdt_record.specs.Answers.{Answer, upon}
use Rattle.fdt_record.specs.Fields.{with_boot}
use Rattle.fdt_record.specs.Rows.{first}
use Rattle.fdt_record.specs.Tests.{alone_rows}

-- the answer
unfoldable pub boot_answer : Record → Answer
boot_answer w = first (alone_rows w)

-- the answer and the record, with the boot number set if accepted
unfoldable pub boot : Record → ℕ → Outcome (Unit {0})
boot w n = record { answer = boot_answer w; after = upon (boot_answer w) (with_boot n w) w }
