-- A run: any list of calls, refused ones among them, from an accepted opening to an accepted finish with no other opening between.
use Rattle.std.specs.Prelude.{◌≡◌, Bool, true, false, ℕ, ◌+◌, ◌-◌, ◌%◌, ◌≤◌, ◌<◌, ◌^◌, length, take}
use mathlib.Core.List.{List, [], ◌∷◌, ◌++◌, foldl}
use Rattle.std.proofs.Math.Option.{Option, none, some}
use Rattle.fdt_bytes.specs.Padding.{zeros}
use Rattle.fdt_strings.specs.Entries.{joined}
use Rattle.fdt_values.specs.Value.{sum, value_bytes}
use Rattle.fdt_format.specs.Blob.{names_of, structure_bytes, events_size}
use Rattle.fdt_format.specs.Description.{◌≔◌, Nodes, Reservation, reservation, Description}
use Rattle.fdt_format.specs.Distinct.{DistinctNames}
use Rattle.fdt_format.specs.Events.{Event, begins, has, ends, nodes_of}
use Rattle.fdt_header.specs.Header.{header_size, structure_start, reservation_bytes}
use Rattle.fdt_record.specs.Answers.{Done, accepts, upon}
use Rattle.fdt_record.specs.Limits.{blob_ceiling, strings_ceiling, phandles_ceiling, usable}
use Rattle.fdt_record.specs.Misfits.{misfit_record, misfit_blob, misfit_strings, misfit_phandles}
use Rattle.fdt_opening.specs.Opening.{count}
use Rattle.fdt_phandles.specs.Phandle.{phandle_name, phandle_value}
use Rattle.fdt_calls.specs.Calls.{Call, new_with_mem_reserv, property_string_list, asks, Request, to_open, to_finish, to_show, Effect, opens, sets_boot, adds, records, no_effect, effect, Desk, answer, after, mark_answer}
use Rattle.fdt_calls.specs.Called.{shown_part}
use Rattle.fdt_promises.specs.OpenNode.{since_begin}

-- ---- calls one after the other

-- what calls leave
unfoldable pub runs : List Request → Desk → Desk
runs [] s = s
runs (c ∷ cs) s = runs cs (after c s)

-- the calls that are accepted
unfoldable pub accepted_calls : List Request → Desk → List Request
accepted_calls [] s = []
accepted_calls (c ∷ cs) s = upon (answer c s) (c ∷ accepted_calls cs (after c s)) (accepted_calls cs (after c s))

-- the values that a call records: that of a phandle call that passed 13 and 16, even if the call is then refused
unfoldable pub recorded_by : Effect → Desk → List ℕ
recorded_by opens s = []
recorded_by (sets_boot n) s = []
recorded_by (adds e) s = []
recorded_by (records value) s = upon (mark_answer value s) (value ∷ []) []
recorded_by no_effect s = []

-- the values that calls record
unfoldable pub phandles_of : List Request → Desk → List ℕ
phandles_of [] s = []
phandles_of (c ∷ cs) s = recorded_by (effect c) s ++ phandles_of cs (after c s)

-- ---- what accepted calls describe

-- the events that an accepted call adds, by its effect
unfoldable pub added_by : Effect → List Event
added_by opens = []
added_by (sets_boot n) = []
added_by (adds e) = e ∷ []
added_by (records value) = has (phandle_name ≔ value_bytes (phandle_value value)) ∷ []
added_by no_effect = []

-- the events that an accepted call adds
abbrev pub tells : Request → List Event
tells c = added_by (effect c)

-- the events of accepted calls
unfoldable pub events_of : List Request → List Event
events_of [] = []
events_of (c ∷ cs) = tells c ++ events_of cs

-- the boot number after an accepted call, by its effect
unfoldable pub boot_after : ℕ → Effect → ℕ
boot_after n opens = n
boot_after n (sets_boot m) = m
boot_after n (adds e) = n
boot_after n (records value) = n
boot_after n no_effect = n

-- the boot number after an accepted call
abbrev pub boots : ℕ → Request → ℕ
boots n c = boot_after n (effect c)

-- the boot number after accepted calls
unfoldable pub boot_of : List Request → ℕ
boot_of cs = foldl boots 0 cs

-- the reservations that numbers give, address and size in turn
unfoldable pub reservations_of : List ℕ → List Reservation
reservations_of [] = []
reservations_of (address ∷ []) = []
reservations_of (address ∷ size ∷ numbers) = reservation address size ∷ reservations_of numbers

-- a description with these nodes; none if the events are not those of nodes
unfoldable pub with_nodes : List Reservation → ℕ → Option Nodes → Option Description
with_nodes rs n none = none
with_nodes rs n (some nodes) = some (record { reservations = rs; boot = n; nodes = nodes })

-- what an opening with these numbers and these accepted calls describe
unfoldable pub describe : List ℕ → List Request → Option Description
describe numbers cs = with_nodes (reservations_of numbers) (boot_of cs) (nodes_of (events_of cs))

-- ---- what holds after every call

-- the depth after an event
unfoldable pub deepens : ℕ → Event → ℕ
deepens depth (begins name) = depth + 1
deepens depth (has p) = depth
deepens depth ends = depth - 1

-- whether a node was ended last, after an event
unfoldable pub closes : Bool → Event → Bool
closes ended (begins name) = false
closes ended (has p) = ended
closes ended ends = true

-- the depth after events
unfoldable pub depth_of : List Event → ℕ
depth_of es = foldl deepens 0 es

-- whether a node was ended last, after events
unfoldable pub ended_of : List Event → Bool
ended_of es = foldl closes false es

-- a buffer whose used part has these contents; the record has its usable length, `room`, and its used length, `used`
pub record Filled (ceiling : ℕ) (contents : List ℕ) (room used : ℕ) (buffer : List ℕ) : Type 0 where
  pub part : take used buffer ≡ contents
  pub counted : used ≡ length contents
  -- the usable length is still that at opening, and no more is used
  pub opened : room ≡ usable ceiling (length buffer)
  pub within : used ≤ room

-- what a desk holds while a run is open, for the opening's numbers, the accepted calls' events and boot number, and the recorded phandles
pub record Holds (numbers : List ℕ) (es : List Event) (boot : ℕ) (phandles : List ℕ) (s : Desk) : Type 0 where
  pub unfinished : s.writer.finished ≡ false
  -- the blob: 40 zeros, the reservations and the bytes of the accepted calls, in order
  pub blob : Filled blob_ceiling (zeros header_size ++ (reservation_bytes numbers ++ structure_bytes (names_of es) es)) s.writer.blob_room s.writer.blob_used s.blob
  -- its used length: 56, plus 16 for each reservation, plus the sizes of the accepted calls
  pub used : s.writer.blob_used ≡ structure_start (count numbers) + events_size es
  -- the strings: each name once, whole, in order of first accepted use
  pub strings : Filled strings_ceiling (joined (names_of es)) s.writer.strings_room s.writer.strings_used s.strings
  -- the phandles: the recorded values, in order
  pub marks : Filled phandles_ceiling phandles s.writer.phandles_room s.writer.phandles_used s.phandles
  pub depth : s.writer.node_depth ≡ depth_of es
  pub ended : s.writer.node_ended ≡ ended_of es
  -- where the open node's properties start: the events since a node began last are from there to the used length
  pub start : s.writer.node_start + events_size (since_begin es) ≡ s.writer.blob_used
  pub boot_number : s.writer.boot_cpuid_phys ≡ boot
  pub reservations : s.writer.reservations ≡ count numbers

-- ---- a run

-- a call that may be part of a run: no opening, and a boot number of 32 bits, as the argument's type says
unfoldable pub InRun : Effect → Type 0
InRun opens = ⊥
InRun (sets_boot n) = n < 2 ^ 32
InRun (adds e) = Unit {0}
InRun (records value) = Unit {0}
InRun no_effect = Unit {0}

-- every call may be part of a run
unfoldable pub AllInRun : List Request → Type 0
AllInRun [] = Unit {0}
AllInRun (c ∷ cs) = InRun (effect c) × AllInRun cs

-- what calls ask for
unfoldable pub all_ask : List Call → List Request
all_ask [] = []
all_ask (c ∷ cs) = asks c ∷ all_ask cs

-- an accepted opening, over any record and buffers of any size and contents, and the calls after it
pub record Run : Type 0 where
  pub before : Desk
  pub numbers : List ℕ
  pub calls : List Call
  pub opened : answer (to_open numbers) before ≡ Done
  pub between : AllInRun (all_ask calls)

-- the desk after the opening
unfoldable pub opened_desk : Run → Desk
opened_desk r = after (to_open r.numbers) r.before

-- the desk after the calls
unfoldable pub desk : Run → Desk
desk r = runs (all_ask r.calls) (opened_desk r)

-- the calls that were accepted in the run
unfoldable pub history : Run → List Request
history r = accepted_calls (all_ask r.calls) (opened_desk r)

-- the events of the accepted calls
abbrev pub events_in : Run → List Event
events_in r = events_of (history r)

-- the boot number that the accepted calls leave
abbrev pub boot_in : Run → ℕ
boot_in r = boot_of (history r)

-- the phandles that were recorded
abbrev pub marks_in : Run → List ℕ
marks_in r = phandles_of (all_ask r.calls) (opened_desk r)

-- what the run describes
unfoldable pub description : Run → Option Description
description r = describe r.numbers (history r)

-- the run ends with an accepted finish
unfoldable pub Finishes : Run → Type 0
Finishes r = answer to_finish (desk r) ≡ Done

-- the blob that is shown then
unfoldable pub blob : Run → List ℕ
blob r = shown_part (after to_finish (desk r))

-- the run describes this, and no node of it has two properties of one name
pub record Describes (r : Run) (d : Description) : Type 0 where
  pub is : description r ≡ some d
  pub distinct : DistinctNames d.nodes

-- a call that changes nothing: showing, or a call that is refused and records no phandle
pub data Idle (s : Desk) : Request → Type 0 where
  shows : Idle s to_show
  refused : (c : Request) → accepts (answer c s) ≡ false → recorded_by (effect c) s ≡ [] → Idle s c

-- the run q is the run r with one more such call among the others
pub record OneMore (r q : Run) : Type 0 where
  pub same_before : q.before ≡ r.before
  pub same_numbers : q.numbers ≡ r.numbers
  pub earlier : List Call
  pub extra : Call
  pub later : List Call
  pub without : r.calls ≡ earlier ++ later
  pub with_it : q.calls ≡ earlier ++ (extra ∷ later)
  pub idle : Idle (runs (all_ask earlier) (opened_desk r)) (asks extra)

-- ---- misfit 17

-- the record fits the buffers: no test of 17 holds
pub record FitDesk (s : Desk) : Type 0 where
  pub figures : misfit_record s.writer ≡ false
  pub blob : misfit_blob s.writer (length s.blob) ≡ false
  pub strings : misfit_strings s.writer s.strings ≡ false
  pub phandles : misfit_phandles s.writer (length s.phandles) ≡ false

-- a call whose own arguments are refused 17: an odd count of reservation numbers, or string-list lengths that don't sum to the bytes given
pub data Misgiven : Call → Type 0 where
  odd_count : (numbers : List ℕ) → length numbers % 2 ≡ 1 → Misgiven (new_with_mem_reserv numbers)
  other_sum : (name joined lengths : List ℕ) → (sum lengths ≡ length joined → ⊥) → Misgiven (property_string_list name joined lengths)
