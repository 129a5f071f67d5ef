-- What the reader answers of a blob, and what its list then holds (document 02, request 1/14).
use Rattle.std.specs.Prelude.{◌≡◌, cond, List, [], ◌∷◌, ◌++◌, ℕ, ◌*◌, ◌/◌, ltb, length, drop, Result, Ok, Err}
use Rattle.std.proofs.Math.Option.{Option, none, some}
use Rattle.fdt_format.specs.declared.Areas.{Areas}
use Rattle.fdt_format.specs.declared.Entry.{Entry}
use Rattle.fdt_format.specs.declared.Unreadable.{Unreadable as Reason}
use Rattle.fdt_format.specs.declared.Unreadable.TheVariants.{Reservations}
use Rattle.fdt_format.specs.Description.{Reservation}
use Rattle.fdt_format.specs.Reading.{areas_of, good_header, read_reservations}
use Rattle.fdt_format.specs.Walk.{walk_start}
use Rattle.fdt_read_token.specs.Trimmed.{trimmed}
use Rattle.fdt_walk.specs.declared.Fault.{Fault}
use Rattle.fdt_walk.specs.declared.Refusal.{Refusal}
use Rattle.fdt_walk.specs.declared.Refusal.TheVariants.{Header, Unreadable}
use Rattle.fdt_walk.specs.Refusals.{number_of as refusalNumber}
use Rattle.fdt_walk.specs.ReaderWalk.{ReaderWalk, stops, reads, reader_walk}
use Rattle.fdt_reader.specs.declared.ReadError.{ReadError}
use Rattle.fdt_reader.specs.declared.ReadError.TheVariants as error
use Rattle.fdt_reader.specs.declared.Surveyed.{Surveyed}
use Rattle.fdt_reader.specs.declared.Values.{Values}

-- the answer of the reader: the values, or why it refuses a call
abbrev pub ReadAnswer : Type 0
ReadAnswer = Result Values ReadError

-- the answer of a survey: what is known of a good blob, or the first fault
abbrev pub SurveyAnswer : Type 0
SurveyAnswer = Result Surveyed Fault

-- ---- the answer as numbers

-- the number of an answer
abbrev pub number_of : ReadAnswer → ℕ
number_of (Ok values) = 0
number_of (Err (error.Refused refusal)) = refusalNumber refusal
number_of (Err error.ShortList) = 30

-- the number of a survey's answer
abbrev pub survey_number : SurveyAnswer → ℕ
survey_number (Ok survey) = 0
survey_number (Err fault) = refusalNumber fault.refusal

-- the place of a survey's fault; 0 if there is none
abbrev pub fault_place : SurveyAnswer → ℕ
fault_place (Ok survey) = 0
fault_place (Err fault) = fault.place

-- all 0
abbrev pub no_values : Values
no_values = record { boot = 0; reservations = 0; entries = 0 }

-- all 0 if refused
abbrev pub values_of : ReadAnswer → Values
values_of (Ok values) = values
values_of (Err (error.Refused refusal)) = no_values
values_of (Err error.ShortList) = no_values

-- ---- what is found in a blob

-- a count that was read at a place: a refusal is a fault there
abbrev pub placed : ℕ → Result ℕ Reason → Result ℕ Fault
placed place (Ok n) = Ok n
placed place (Err reason) = Err (record { refusal = Unreadable reason; place = place })

-- the first fault; or the reservations and the entries
pub data Outcome : Type 0 where
  refused : Fault → Outcome
  accepted : List Reservation → List Entry → Outcome

-- refused, for what is at a place
unfoldable pub refused_at : ℕ → Refusal → Outcome
refused_at place r = refused (record { refusal = r; place = place })

-- third: the structure, token by token
unfoldable pub from_walk : List Reservation → ReaderWalk → Outcome
from_walk rs (stops fault) = refused fault
from_walk rs (reads ts) = accepted rs ts

-- second: the reservations
unfoldable pub from_reservations : List ℕ → Areas → Option (List Reservation) → Outcome
from_reservations b a none = refused_at a.reservations (Unreadable Reservations)
from_reservations b a (some rs) = from_walk rs (reader_walk b a (walk_start a))

-- first: the header
unfoldable pub outcome : List ℕ → Outcome
outcome b = cond (good_header b) (from_reservations b (areas_of b) (read_reservations b (areas_of b))) (refused_at 0 Header)

-- ---- the answers

-- the areas that a survey returns, and the counts
unfoldable pub surveyed_as : Areas → Outcome → SurveyAnswer
surveyed_as a (refused fault) = Err fault
surveyed_as a (accepted rs ts) = Ok (record { areas = a; reservations = length rs; entries = length ts })

-- what a survey answers of a blob
unfoldable pub survey_of : List ℕ → SurveyAnswer
survey_of b = surveyed_as (trimmed b (areas_of b)) (outcome b)

-- the reader's answer, by the boot number and the length of the list: last, whether four numbers for each entry have room
unfoldable pub answered_as : ℕ → ℕ → Outcome → ReadAnswer
answered_as boot room (refused fault) = Err (error.Refused fault.refusal)
answered_as boot room (accepted rs ts) = cond (ltb (room / 4) (length ts)) (Err error.ShortList) (Ok (record { boot = boot; reservations = length rs; entries = length ts }))

-- the reader's answer of a blob, with a list
unfoldable pub answer_of : List ℕ → List ℕ → ReadAnswer
answer_of b list = answered_as (areas_of b).boot (length list) (outcome b)

-- entries as numbers, four for each
unfoldable pub listed : List Entry → List ℕ
listed [] = []
listed (t ∷ ts) = t.token ∷ t.place ∷ t.name ∷ t.size ∷ listed ts

-- a list with entries at its front; numbers after them stay
unfoldable pub filled : List ℕ → List Entry → List ℕ
filled list ts = listed ts ++ drop (length ts * 4) list

-- the list afterwards; a refusal writes nothing
unfoldable pub list_as : List ℕ → Outcome → List ℕ
list_as list (refused fault) = list
list_as list (accepted rs ts) = cond (ltb (length list / 4) (length ts)) list (filled list ts)

-- the list after the reader was called with a blob
unfoldable pub list_after : List ℕ → List ℕ → List ℕ
list_after b list = list_as list (outcome b)

-- a call of the reader: its answer, and the list after it
pub record Read (b before after : List ℕ) (r : ReadAnswer) : Type 0 where
  pub answer : r ≡ answer_of b before
  pub list : after ≡ list_after b before
