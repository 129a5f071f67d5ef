-- `name_valid_char` meets its contract: the library's letters and digits are those of `name_byte`.
use mathlib.Core.Path.{◌∙◌}
use Rattle.fdt_names.specs.Names.{name_byte, one_of}
use Rattle.fdt_names.proofs.Names.{letter_or_digit}
use Rattle.fdt_names.proofs.name_valid_char.Goals as goal

pub returns-then-is_ascii_alphanumeric : goal.returns-then-is_ascii_alphanumeric
unfolding name_byte
returns-then-is_ascii_alphanumeric c = rw (← letter_or_digit, ← c.is_ascii_alphanumeric.ensures.value, c.if-is_ascii_alphanumeric.true)

pub returns-else-is_ascii_alphanumeric : goal.returns-else-is_ascii_alphanumeric
unfolding name_byte one_of
returns-else-is_ascii_alphanumeric c =
    c.contains.ensures.value ∙ rw (← letter_or_digit, ← c.is_ascii_alphanumeric.ensures.value, c.if-is_ascii_alphanumeric.false)
