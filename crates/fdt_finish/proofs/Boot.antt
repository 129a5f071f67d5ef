-- Exactly when setting the boot number is accepted, and when a refusal is given.
use Rattle.fdt_record.specs.declared.Record.{Record}
use Rattle.fdt_record.specs.Tests.{alone_rows}
use Rattle.fdt_record.proofs.Rows.{Exactly, exactly}
use Rattle.fdt_finish.specs.Boot.{boot_answer}

pub boot_exactly : (w : Record) → Exactly (alone_rows w) (boot_answer w)
unfolding boot_answer
boot_exactly w = exactly (alone_rows w)
