-- Numbers as bytes: "All numbers are big-endian" (document 01, "The bytes").
use Rattle.std.specs.Prelude.{ℕ, zero, suc, ◌+◌, ◌*◌, ◌/◌, ◌%◌, ◌^◌, List, [], ◌∷◌, ◌++◌, length, take, drop, flat_map}

-- the bytes of a number, highest byte first; the width says how many
unfoldable pub big_endian : ℕ → ℕ → List ℕ
big_endian zero v = []
big_endian (suc width) v = big_endian width (v / 256) ++ (v % 256 ∷ [])

-- the number that bytes encode, highest byte first
unfoldable pub from_big_endian : List ℕ → ℕ
from_big_endian [] = 0
from_big_endian (b ∷ bs) = b * 256 ^ length bs + from_big_endian bs

-- the number of a width at a place; if the bytes end earlier, the number of those that are left
unfoldable pub number_at : ℕ → List ℕ → ℕ → ℕ
number_at width bytes at = from_big_endian (take width (drop at bytes))

-- the word at a place: 32 bits
abbrev pub word_at : List ℕ → ℕ → ℕ
word_at = number_at 4

-- the number of 64 bits at a place
abbrev pub wide_at : List ℕ → ℕ → ℕ
wide_at = number_at 8

-- the bytes of numbers of one width, one number after the other
unfoldable pub cell_bytes : ℕ → List ℕ → List ℕ
cell_bytes width numbers = flat_map (big_endian width) numbers
