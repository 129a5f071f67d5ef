-- `is_mark` meets its contract. The invariant: `any` says whether `c` is one of the marks passed.
use mathlib.Core.Path.{◌≡◌}
use lib.ListN.{take}
use Rattle.fdt_names.specs.Names.{one_of}
use Rattle.fdt_names.proofs.is_mark.Given as goal

abbrev pub invariant-loop-mark : goal.invariant-loop-mark
invariant-loop-mark l = l.any ≡ one_of (take l.mark-index l.marks) l.c
