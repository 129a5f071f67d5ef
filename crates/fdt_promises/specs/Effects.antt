-- What a call may change of the buffers, and what it may depend on.
use Rattle.std.specs.Prelude.{◌≡◌, List, [], ◌∷◌, ◌⊎◌, ℕ, ◌+◌, ◌≤◌, ◌<◌, length, take, get_or}
use Rattle.fdt_header.specs.Header.{header_size}
use Rattle.fdt_format.specs.Tokens.{begin_bytes, end_bytes}
use Rattle.fdt_values.specs.Value.{Value}
use Rattle.fdt_record.specs.Limits.{blob_ceiling, strings_ceiling, phandles_ceiling, usable}
use Rattle.fdt_opening.specs.Opening.{opening_bytes}
use Rattle.fdt_properties.specs.Property.{place_of, added, written}
use Rattle.fdt_phandles.specs.Phandle.{phandle_name, phandle_value}
use Rattle.fdt_calls.specs.Calls.{Request, to_open, to_boot, to_begin, to_end, to_have, to_mark, to_finish, to_show, Desk}

-- ---- only its own bytes

infix 20 ◌for◌
-- a part of a buffer: where it begins, and its size
pub data Part : Type 0 where
  ◌for◌ : (from size : ℕ) → Part

-- the place is in none of the parts
unfoldable pub Outside : List Part → ℕ → Type 0
Outside [] i = Unit {0}
Outside ((from for size) ∷ parts) i = ((i < from) ⊎ (from + size ≤ i)) × Outside parts i

-- every part ends within this length
unfoldable pub Within : ℕ → List Part → Type 0
Within room [] = Unit {0}
Within room ((from for size) ∷ parts) = (from + size ≤ room) × Within room parts

-- the buffer keeps its length and everything outside the parts, and they are within its usable length
pub record OnlyIn (ceiling : ℕ) (parts : List Part) (before after : List ℕ) : Type 0 where
  pub kept_length : length after ≡ length before
  pub kept : (i : ℕ) → Outside parts i → get_or after i 0 ≡ get_or before i 0
  pub within : Within (usable ceiling (length before)) parts

-- the parts of the three buffers that a call may change
pub record Own : Type 0 where
  pub blob : List Part
  pub strings : List Part
  pub phandles : List Part

-- the entry that recording a phandle changes
abbrev pub own_entry : Desk → List Part
own_entry s = (s.writer.phandles_used for 1) ∷ []

-- the parts of a property: its bytes and a new name, each from the used length on; and these entries of the phandles
abbrev pub own_property : Desk → (name : List ℕ) → Value → List Part → Own
own_property s name v entries = record {
  blob = (s.writer.blob_used for length (written s.writer s.strings name v)) ∷ [];
  strings = (s.writer.strings_used for added (place_of s.writer s.strings name) name) ∷ [];
  phandles = entries;
}

-- the parts of a call that changes only these of the blob
abbrev pub own_blob : List Part → Own
own_blob parts = record { blob = parts; strings = []; phandles = [] }

-- the parts of each call; finish writes the header, and word 9 and the strings from the used length on
unfoldable pub own : Request → Desk → Own
own (to_open numbers) s = own_blob ((0 for length (opening_bytes numbers)) ∷ [])
own (to_boot n) s = own_blob []
own (to_begin name) s = own_blob ((s.writer.blob_used for length (begin_bytes name)) ∷ [])
own (to_end handle) s = own_blob ((s.writer.blob_used for length end_bytes) ∷ [])
own (to_have name v) s = own_property s name v []
own (to_mark value) s = own_property s phandle_name (phandle_value value) (own_entry s)
own to_finish s = own_blob ((0 for header_size) ∷ (s.writer.blob_used for (4 + s.writer.strings_used)) ∷ [])
own to_show s = own_blob []

-- from the first desk to the second, only these parts changed
pub record Changed (o : Own) (s t : Desk) : Type 0 where
  pub blob : OnlyIn blob_ceiling o.blob s.blob t.blob
  pub strings : OnlyIn strings_ceiling o.strings s.strings t.strings
  pub phandles : OnlyIn phandles_ceiling o.phandles s.phandles t.phandles

-- ---- nothing past the usable length

-- two buffers have the same usable part
unfoldable pub SameUsable : ℕ → List ℕ → List ℕ → Type 0
SameUsable ceiling xs ys = take (usable ceiling (length xs)) xs ≡ take (usable ceiling (length ys)) ys

-- two desks have the same record and the same usable parts
pub record Alike (s t : Desk) : Type 0 where
  pub writer : s.writer ≡ t.writer
  pub blob : SameUsable blob_ceiling s.blob t.blob
  pub strings : SameUsable strings_ceiling s.strings t.strings
  pub phandles : SameUsable phandles_ceiling s.phandles t.phandles
