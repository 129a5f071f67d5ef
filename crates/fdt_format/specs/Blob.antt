-- The bytes of a description (document 01, "The bytes"): header, reservations, structure, strings.
use Rattle.std.specs.Prelude.{List, [], ◌∷◌, ◌++◌, ℕ, ◌+◌, ◌<◌, ◌^◌, length, get_or, Option, None, Some}
use Rattle.fdt_bytes.specs.Padding.{round_up}
use Rattle.fdt_strings.specs.Entries.{found_values, first_from, joined, NoZero}
use Rattle.fdt_format.specs.Description.{◌≔◌, Reservation, reservation, Description}
use Rattle.fdt_format.specs.Events.{Event, begins, has, ends, events}
use Rattle.fdt_header.specs.Header.{structure_start, reservation_bytes, header_bytes}
use Rattle.fdt_format.specs.Tokens.{begin_bytes, property_bytes, property_size, end_bytes, final_bytes}

-- names with one more at the end, unless it was found among them
unfoldable pub or_at_end : Option ℕ → List (List ℕ) → List ℕ → List (List ℕ)
or_at_end (Some offset) names name = names
or_at_end None names name = names ++ (name ∷ [])

-- names with one more, each once
unfoldable pub with_name : List (List ℕ) → List ℕ → List (List ℕ)
with_name names name = or_at_end (first_from 0 names name) names name

-- names, and then the names of properties in events: each once, in order of first use
unfoldable pub names_from : List (List ℕ) → List Event → List (List ℕ)
names_from names [] = names
names_from names (begins name ∷ es) = names_from names es
names_from names (has (name ≔ value) ∷ es) = names_from (with_name names name) es
names_from names (ends ∷ es) = names_from names es

-- the names of properties in events
unfoldable pub names_of : List Event → List (List ℕ)
names_of es = names_from [] es

-- the offset that was found, or 0
unfoldable pub found_at : Option ℕ → ℕ
found_at f = get_or (found_values f) 0 0

-- the offset of a name in the strings of names
unfoldable pub offset_of : List (List ℕ) → List ℕ → ℕ
offset_of names name = found_at (first_from 0 names name)

-- the bytes of an event; the names are those of the strings area
unfoldable pub event_bytes : List (List ℕ) → Event → List ℕ
event_bytes names (begins name) = begin_bytes name
event_bytes names (has (name ≔ value)) = property_bytes (offset_of names name) value
event_bytes names ends = end_bytes

-- the bytes of events, one after the other
unfoldable pub structure_bytes : List (List ℕ) → List Event → List ℕ
structure_bytes names [] = []
structure_bytes names (e ∷ es) = event_bytes names e ++ structure_bytes names es

-- how many bytes an event takes
unfoldable pub event_size : Event → ℕ
event_size (begins name) = 4 + round_up 4 (length name + 1)
event_size (has (name ≔ value)) = property_size (length value)
event_size ends = 4

-- how many bytes events take
unfoldable pub events_size : List Event → ℕ
events_size [] = 0
events_size (e ∷ es) = event_size e + events_size es

-- reservations as numbers: address and size in turn
unfoldable pub numbers_of : List Reservation → List ℕ
numbers_of [] = []
numbers_of (reservation address size ∷ rs) = address ∷ size ∷ numbers_of rs

-- the blob of reservations, a boot number, a structure up to its final word, and strings
abbrev pub blob_around : List Reservation → ℕ → (structure strings : List ℕ) → List ℕ
blob_around rs boot structure strings =
    header_bytes (length rs) (structure_start (length rs) + length structure + 4) (length strings) boot
    ++ (reservation_bytes (numbers_of rs) ++ (structure ++ final_bytes strings))

-- the blob of reservations, a boot number and events
unfoldable pub blob_from : List Reservation → ℕ → List Event → List ℕ
blob_from rs boot es = blob_around rs boot (structure_bytes (names_of es) es) (joined (names_of es))

-- the blob of a description
unfoldable pub blob_of : Description → List ℕ
blob_of d = blob_from d.reservations d.boot (events d.nodes [])

-- the name of an event has no byte 0
unfoldable pub Plain : Event → Type 0
Plain (begins name) = NoZero name
Plain (has (name ≔ value)) = NoZero name
Plain ends = Unit {0}

-- no name of any event has a byte 0
unfoldable pub AllPlain : List Event → Type 0
AllPlain [] = Unit {0}
AllPlain (e ∷ es) = Plain e × AllPlain es

-- reservations of 64-bit numbers, none with both numbers 0
unfoldable pub AllReservable : List Reservation → Type 0
AllReservable [] = Unit {0}
AllReservable (reservation address size ∷ rs) = (address < 2 ^ 64) × (size < 2 ^ 64) × (0 < address + size) × AllReservable rs

-- what the format can hold: such names and reservations, and a boot number and a total size of 32 bits
pub record WellFormed (d : Description) : Type 0 where
  pub names : AllPlain (events d.nodes [])
  pub reservable : AllReservable d.reservations
  pub boot : d.boot < 2 ^ 32
  pub size : length (blob_of d) < 2 ^ 32
