-- When a survey gives which answer, and the reader which number. The first fault wins. Also what an accepted call tells (document
-- 02, request 1/14).
use Rattle.std.specs.Prelude.{◌≡◌, true, false, List, [], map, ℕ, ◌/◌, ◌≤◌, ◌<◌, length, Ok, Err}
use Rattle.std.proofs.Math.Option.{none, some}
use Rattle.fdt_format.specs.declared.Entry.{Entry}
use Rattle.fdt_format.specs.declared.Unreadable.TheVariants.{Reservations}
use Rattle.fdt_format.specs.Description.{Reservation, Description}
use Rattle.fdt_format.specs.Events.{events}
use Rattle.fdt_format.specs.Reading.{areas_of, good_header, event_at, read_reservations, reading}
use Rattle.fdt_format.specs.Walk.{good, walk, walk_start}
use Rattle.fdt_read_token.specs.Trimmed.{trimmed}
use Rattle.fdt_walk.specs.declared.Fault.{Fault}
use Rattle.fdt_walk.specs.declared.Refusal.TheVariants.{Header, Unreadable}
use Rattle.fdt_walk.specs.Depth.{most_open, NestedAtMost}
use Rattle.fdt_walk.specs.Reached.{Meets}
use Rattle.fdt_walk.specs.Refusals.{number_of as refusalNumber}
use Rattle.fdt_reader.specs.Reader.{ReadAnswer, SurveyAnswer, number_of, values_of, filled}

-- the header is good, and an all-zero pair ends the reservations inside the blob
pub record GoodFront (b : List ℕ) : Type 0 where
  pub header : good_header b ≡ true
  pub found : List Reservation
  pub reservations : read_reservations b (areas_of b) ≡ some found

-- a blob is read as a description whose nodes are nested at most 64 deep
pub record Describes (b : List ℕ) (d : Description) : Type 0 where
  pub read : reading b ≡ some d
  pub shallow : NestedAtMost most_open d.nodes

-- the first fault of a blob, and its place
pub data FirstFault (b : List ℕ) : Fault → Type 0 where
  -- the header is not good
  header : good_header b ≡ false → FirstFault b (record { refusal = Header; place = 0 })
  -- the header is good, and no all-zero pair ends the reservations inside the blob
  reservations : good_header b ≡ true → read_reservations b (areas_of b) ≡ none
      → FirstFault b (record { refusal = Unreadable Reservations; place = (areas_of b).reservations })
  -- header and reservations are good, and the token at a state that is reached is wrong
  token : {f : Fault} → GoodFront b → Meets b (areas_of b) f → FirstFault b f

-- the number of the reader's answer
pub data Numbered (b list : List ℕ) : ℕ → Type 0 where
  -- the blob has a fault: 21 to 25
  first_fault : {f : Fault} → FirstFault b f → Numbered b list (refusalNumber f.refusal)
  -- all is good, and the list has too little room, with four numbers for each entry
  short_list : {d : Description} → Describes b d → length list / 4 < length (events d.nodes []) → Numbered b list 30
  -- all is good, and the list has room
  done : {d : Description} → Describes b d → length (events d.nodes []) ≤ length list / 4 → Numbered b list 0

-- what a survey answers
pub data Surveys (b : List ℕ) : SurveyAnswer → Type 0 where
  -- the blob has a fault
  refuses : {f : Fault} → FirstFault b f → Surveys b (Err f)
  -- all is good: its areas, with the strings cut, and how many reservations and entries it has
  readable : {d : Description} → Describes b d → Surveys b (Ok (record { areas = trimmed b (areas_of b); reservations = length d.reservations; entries = length (events d.nodes []) }))

-- what an accepted call tells of a description: the boot number and the counts are its own, and the entries at the front of the
-- list are those that the reading finds, with their places; they mean its events
pub record Tells (b before after : List ℕ) (r : ReadAnswer) (d : Description) : Type 0 where
  pub number : number_of r ≡ 0
  pub values : values_of r ≡ record { boot = d.boot; reservations = length d.reservations; entries = length (events d.nodes []) }
  pub entries : List Entry
  pub walked : walk b (areas_of b) (walk_start (areas_of b)) ≡ good entries
  pub events_are : map (event_at b) entries ≡ events d.nodes []
  pub list : after ≡ filled before entries
