-- `set_boot_cpuid_phys` meets its contract: a refusal leaves the record, and acceptance sets the number.
use Rattle.std.proofs.Common.{sym, ◌∙◌}
use Rattle.fdt_record.proofs.Answers.{outcome-accepted, outcome-refused}
use Rattle.fdt_finish.specs.Boot.{boot_answer, boot}
use Rattle.fdt_finish.proofs.set_boot_cpuid_phys.Goals as goal

pub returns-in-Err : goal.returns-in-Err
unfolding boot boot_answer
returns-in-Err c = outcome-refused _ _ (sym c.alone_tests.ensures ∙ c.in-Err.is)

pub returns : goal.returns
unfolding boot boot_answer
returns c = outcome-accepted _ _ (sym c.alone_tests.ensures ∙ c.in_default.is)
