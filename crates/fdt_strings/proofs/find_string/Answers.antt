-- `find_string` meets its contract: the name is found at the first place where it is an entry, if it has one.
use Rattle.fdt_strings.proofs.FirstEntry.{first_found}
use Rattle.fdt_strings.proofs.find_string.Goals as goal

pub returns : goal.returns
returns c = first_found _ _ _ c.first_entry.ensures
