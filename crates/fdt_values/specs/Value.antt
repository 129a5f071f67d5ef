-- The values of a property, and their bytes (document 01, pieces 6 and 7).
use Rattle.std.specs.Prelude.{ℕ, ◌+◌, Bool, false, not, List, [], ◌∷◌, ◌++◌, eqb, length, take, drop}
use Rattle.fdt_bytes.specs.BigEndian.{cell_bytes}
use Rattle.fdt_names.specs.Names.{has_zero}
use Rattle.fdt_strings.specs.Entries.{entry}

-- a value: bytes as they are, numbers of one width, or strings as their joined bytes and their lengths
pub data Value : Type 0 where
  raw : List ℕ → Value
  cells : ℕ → List ℕ → Value
  texts : List ℕ → List ℕ → Value

-- strings with a 0 after each, from their joined bytes and their lengths
unfoldable pub text_bytes : List ℕ → List ℕ → List ℕ
text_bytes joined [] = []
text_bytes joined (n ∷ lengths) = entry (take n joined) ++ text_bytes (drop n joined) lengths

-- the bytes of a value
unfoldable pub value_bytes : Value → List ℕ
value_bytes (raw bytes) = bytes
value_bytes (cells width numbers) = cell_bytes width numbers
value_bytes (texts joined lengths) = text_bytes joined lengths

-- the sum of numbers, which does not wrap
unfoldable pub sum : List ℕ → ℕ
sum [] = 0
sum (n ∷ numbers) = n + sum numbers

-- string-list lengths that don't sum to the bytes given
unfoldable pub misfit_value : Value → Bool
misfit_value (raw bytes) = false
misfit_value (cells width numbers) = false
misfit_value (texts joined lengths) = not (eqb (sum lengths) (length joined))

-- a byte 0 in a string value
unfoldable pub zero_value : Value → Bool
zero_value (raw bytes) = false
zero_value (cells width numbers) = false
zero_value (texts joined lengths) = has_zero joined
