-- Words 4 in a structure: put before its tokens, or over them, as a boot loader does that blanks properties and nodes (Devicetree
-- Specification v0.4, section 5.4.1).
use Rattle.std.specs.Prelude.{List, [], ◌∷◌, ◌++◌, ℕ, replicate}
use Rattle.fdt_bytes.specs.BigEndian.{big_endian, cell_bytes}
use Rattle.fdt_strings.specs.Entries.{joined}
use Rattle.fdt_format.specs.Blob.{event_bytes, blob_around}
use Rattle.fdt_format.specs.Description.{Description}
use Rattle.fdt_format.specs.Events.{Event}
use Rattle.fdt_format.specs.Tokens.{skip_token}

-- the token of an event, or a word 4
pub data Piece : Type 0 where
  token : Event → Piece
  blank : Piece

-- what pieces describe; a word 4 describes nothing
unfoldable pub events_of : List Piece → List Event
events_of [] = []
events_of (token e ∷ ps) = e ∷ events_of ps
events_of (blank ∷ ps) = events_of ps

-- the bytes of a piece; the names are those of the strings area
unfoldable pub piece_bytes : List (List ℕ) → Piece → List ℕ
piece_bytes names (token e) = event_bytes names e
piece_bytes names blank = big_endian 4 skip_token

-- the bytes of pieces, one after the other
unfoldable pub pieces_bytes : List (List ℕ) → List Piece → List ℕ
pieces_bytes names [] = []
pieces_bytes names (p ∷ ps) = piece_bytes names p ++ pieces_bytes names ps

-- the blob of a description's reservations and boot number, with pieces as its structure, and the strings of these names
unfoldable pub spaced_blob : Description → List (List ℕ) → List Piece → List ℕ
spaced_blob d names ps = blob_around d.reservations d.boot (pieces_bytes names ps) (joined names)

-- n words 4
unfoldable pub words_four : ℕ → List ℕ
words_four n = cell_bytes 4 (replicate n skip_token)
