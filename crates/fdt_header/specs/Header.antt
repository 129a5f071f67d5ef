-- The header and the reservations (document 01, "The bytes"; Devicetree Specification v0.4, sections 5.2 and 5.3).
use Rattle.std.specs.Prelude.{ℕ, ◌+◌, ◌*◌, ◌-◌, List, [], ◌∷◌, ◌++◌}
use Rattle.fdt_bytes.specs.BigEndian.{cell_bytes}
use Rattle.fdt_bytes.specs.Padding.{zeros}

-- the first word of every blob
abbrev pub magic : ℕ
magic = 0xd00dfeed

-- the version of the format
abbrev pub version : ℕ
version = 17

-- the oldest version that it is compatible with
abbrev pub last_compatible : ℕ
last_compatible = 16

-- the size of the header; the reservations begin there
abbrev pub header_size : ℕ
header_size = 40

-- the structure begins after the header, n reservations and 16 zeros
abbrev pub structure_start : ℕ → ℕ
structure_start n = 56 + 16 * n

-- address and size, 8 bytes each, in the caller's order, then 16 zero bytes
unfoldable pub reservation_bytes : List ℕ → List ℕ
reservation_bytes numbers = cell_bytes 8 numbers ++ zeros 16

-- the words of the header, in order; the structure begins at `start` and ends where the strings begin
unfoldable pub words_from : (start strings stringsSize boot : ℕ) → List ℕ
words_from start strings stringsSize boot =
    magic
    ∷ (strings + stringsSize)
    ∷ start
    ∷ strings
    ∷ header_size
    ∷ version
    ∷ last_compatible
    ∷ boot
    ∷ stringsSize
    ∷ (strings - start)
    ∷ []

-- the words of the header of a blob with n reservations
unfoldable pub header_words : (n strings stringsSize boot : ℕ) → List ℕ
header_words n strings stringsSize boot = words_from (structure_start n) strings stringsSize boot

-- the bytes of the header
unfoldable pub header_bytes : ℕ → ℕ → ℕ → ℕ → List ℕ
header_bytes n strings stringsSize boot = cell_bytes 4 (header_words n strings stringsSize boot)
