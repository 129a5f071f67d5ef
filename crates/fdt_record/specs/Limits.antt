-- The limits of document 01, "What the station lends".
use Rattle.std.specs.Prelude.{ℕ, min}

-- ceiling of the blob, in bytes
abbrev pub blob_ceiling : ℕ
blob_ceiling = 65536

-- ceiling of the strings, in bytes
abbrev pub strings_ceiling : ℕ
strings_ceiling = 8192

-- ceiling of the phandles, in entries
abbrev pub phandles_ceiling : ℕ
phandles_ceiling = 256

-- most reservations
abbrev pub most_reservations : ℕ
most_reservations = 64

-- greatest depth
abbrev pub most_depth : ℕ
most_depth = 64

-- usable length: the lesser of the buffer's length and its ceiling
unfoldable pub usable : ℕ → ℕ → ℕ
usable ceiling length = min length ceiling
