-- `base_end` meets its contract: the place of the first @ is that of the definition (`index_of-position`).
use mathlib.Core.Path.{ap, ◌∙◌}
use Prim.Native.Nat.{ℕ, ◌+◌}
use borrow.Author.Rules.{part_to_end}
use Rattle.fdt_names.proofs.Names.{index_of-position}
use Rattle.fdt_names.proofs.base_end.Goals as goal

pub returns-clause-value : goal.returns-clause-value
returns-clause-value c = ap (λ (n : ℕ). 1 + n) (c.unwrap_or.ensures ∙ index_of-position 64 _ c.first_at.ensures ∙ simp part_to_end)
