-- What the reader tells of a finished run, in the words of the run's calls.
use Rattle.std.specs.Prelude.{◌≡◌, List, [], ◌∷◌, map, ℕ, ◌+◌, ◌/◌, ◌≤◌, ◌<◌, length}
use Rattle.fdt_header.specs.Header.{structure_start}
use Rattle.fdt_format.specs.declared.Entry.{Entry}
use Rattle.fdt_format.specs.Blob.{names_of, offset_of, event_size, events_size}
use Rattle.fdt_format.specs.Description.{◌≔◌}
use Rattle.fdt_format.specs.Events.{Event, begins, has, ends}
use Rattle.fdt_format.specs.Reading.{event_at}
use Rattle.fdt_format.specs.Tokens.{begin_token, end_token, property_token}
use Rattle.fdt_opening.specs.Opening.{count}
use Rattle.fdt_reader.specs.Reader.{ReadAnswer, number_of, no_values, values_of, filled}
use Rattle.fdt_promises.specs.Run.{Run, events_in, boot_in, blob}

-- the entry of an event at a place, if these names are in the strings, which begin at `strings`
unfoldable pub entry_at : (names : List (List ℕ)) → (strings at : ℕ) → Event → Entry
entry_at names strings at (begins name) = record { token = begin_token; place = at; name = at + 4; size = 0 }
entry_at names strings at (has (name ≔ value)) = record { token = property_token; place = at; name = strings + offset_of names name; size = length value }
entry_at names strings at ends = record { token = end_token; place = at; name = 0; size = 0 }

-- the entries of events from a place on, each after the bytes of the one before
unfoldable pub entries_from : (names : List (List ℕ)) → (strings at : ℕ) → List Event → List Entry
entries_from names strings at [] = []
entries_from names strings at (e ∷ es) = entry_at names strings at e ∷ entries_from names strings (at + event_size e) es

-- where the strings of a run begin: after its structure and the final word
unfoldable pub strings_in : Run → ℕ
strings_in r = structure_start (count r.numbers) + events_size (events_in r) + 4

-- the entries of a run
unfoldable pub entries_in : Run → List Entry
entries_in r = entries_from (names_of (events_in r)) (strings_in r) (structure_start (count r.numbers)) (events_in r)

-- the blob is read: the boot number and the counts are the run's own, and its entries are at the front of the list
pub record ReadWhole (r : Run) (before after : List ℕ) (a : ReadAnswer) : Type 0 where
  pub number : number_of a ≡ 0
  pub values : values_of a ≡ record { boot = boot_in r; reservations = count r.numbers; entries = length (events_in r) }
  pub list : after ≡ filled before (entries_in r)

-- the blob is refused 30: no values, and nothing is written
pub record RefusedShort (before after : List ℕ) (a : ReadAnswer) : Type 0 where
  pub number : number_of a ≡ 30
  pub values : values_of a ≡ no_values
  pub list : after ≡ before

-- the reader, called with the blob of a run and a list: its answer, and the list after it
pub record ReadBack (r : Run) (before after : List ℕ) (a : ReadAnswer) : Type 0 where
  -- the run's entries mean the events of its accepted calls
  pub events_are : map (event_at (blob r)) (entries_in r) ≡ events_in r
  -- four numbers for each have room in the list, or not
  pub with_room : length (events_in r) ≤ length before / 4 → ReadWhole r before after a
  pub too_short : length before / 4 < length (events_in r) → RefusedShort before after a
