-- The structure's words and bytes (document 01, "The bytes"; word 4: document 02, request 3/14; Devicetree Specification v0.4, section
-- 5.4).
use Rattle.std.specs.Prelude.{ℕ, ◌+◌, List, [], ◌∷◌, ◌++◌, length}
use Rattle.fdt_bytes.specs.BigEndian.{big_endian, cell_bytes}
use Rattle.fdt_bytes.specs.Padding.{padded, round_up}
use Rattle.fdt_strings.specs.Entries.{entry}

-- the word that begins a node
abbrev pub begin_token : ℕ
begin_token = 1

-- the word that ends a node
abbrev pub end_token : ℕ
end_token = 2

-- the word that begins a property
abbrev pub property_token : ℕ
property_token = 3

-- the word that is skipped
abbrev pub skip_token : ℕ
skip_token = 4

-- the word after the last node
abbrev pub final_token : ℕ
final_token = 9

-- Begin: word 1, name, a 0, zeros to a multiple of 4
unfoldable pub begin_bytes : List ℕ → List ℕ
begin_bytes name = big_endian 4 begin_token ++ padded 4 (entry name)

-- Property: word 3, value length, name offset, value, zeros
unfoldable pub property_bytes : ℕ → List ℕ → List ℕ
property_bytes offset value = cell_bytes 4 (property_token ∷ length value ∷ offset ∷ []) ++ padded 4 value

-- how many bytes a property takes, by the size of its value
abbrev pub property_size : ℕ → ℕ
property_size size = 12 + round_up 4 size

-- End: word 2
unfoldable pub end_bytes : List ℕ
end_bytes = big_endian 4 end_token

-- Finish: word 9, then the strings, unpadded
unfoldable pub final_bytes : List ℕ → List ℕ
final_bytes strings = big_endian 4 final_token ++ strings
