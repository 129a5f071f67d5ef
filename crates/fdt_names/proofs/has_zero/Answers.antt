-- `has_zero` meets its contract: 0 is one of the list.
use mathlib.Core.Path.{◌∙◌}
use Rattle.fdt_names.specs.Names.{one_of}
use Rattle.fdt_names.proofs.Names.{has_zero_lem}
use Rattle.fdt_names.proofs.has_zero.Goals as goal

pub returns : goal.returns
unfolding one_of
returns c = c.contains.ensures.value ∙ has_zero_lem _
