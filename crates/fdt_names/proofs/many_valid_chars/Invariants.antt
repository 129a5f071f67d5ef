-- `many_valid_chars` meets its contract. The invariant: `good` says whether the bytes passed are valid.
use mathlib.Core.Path.{◌≡◌}
use lib.ListN.{take}
use Rattle.fdt_names.specs.Grammar.{all}
use Rattle.fdt_names.specs.Names.{name_byte}
use Rattle.fdt_names.proofs.many_valid_chars.Given as goal

abbrev pub invariant-loop-c : goal.invariant-loop-c
invariant-loop-c l = l.good ≡ all (name_byte l.marks) (take l.c-index l.s)
