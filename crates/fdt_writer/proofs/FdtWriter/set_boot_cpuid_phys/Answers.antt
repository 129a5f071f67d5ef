-- `set_boot_cpuid_phys` meets its contract: the call on the record ensures it.
use Rattle.fdt_calls.proofs.Called.{set-boot_cpuid_phys_called}
use Rattle.fdt_writer.proofs.FdtWriter.set_boot_cpuid_phys.Goals as goal

pub returns : goal.returns
returns c blob strings phandles = set-boot_cpuid_phys_called c.into.ensures c.set_boot_cpuid_phys.ensures
