-- How an outcome comes about, by the first fault or by a walk to the end; and what the reader then does with a list.
use mathlib.Core.Path.{◌≡◌, refl, ◌∙◌}
use mathlib.Core.Bool.{Bool, true, false, cond}
use mathlib.Core.List.{List}
use mathlib.Core.Option.{Option, none, some}
use Prim.Native.Nat.{ℕ, ◌/◌, ◌≤◌, ◌<◌}
use borrow.Author.Tests.{lt-ltb, le-ltb}
use lib.ListN.{length}
use Rattle.std.specs.declared.result.Result.TheVariants.{Ok, Err}
use Rattle.fdt_format.specs.declared.Areas.{Areas}
use Rattle.fdt_format.specs.declared.Entry.{Entry}
use Rattle.fdt_format.specs.Description.{Reservation, Description}
use Rattle.fdt_format.specs.Reading.{areas_of, good_header, read_reservations}
use Rattle.fdt_format.specs.Walk.{walk_start}
use Rattle.fdt_format.proofs.Nested.{Parts}
use Rattle.fdt_walk.specs.declared.Fault.{Fault}
use Rattle.fdt_walk.specs.declared.Refusal.TheVariants.{Header}
use Rattle.fdt_walk.specs.ReaderWalk.{ReaderWalk, stops, reads, reader_walk}
use Rattle.fdt_walk.proofs.Reached.{stops_exactly}
use Rattle.fdt_reader.specs.declared.ReadError.TheVariants as error
use Rattle.fdt_reader.specs.Numbers.{GoodFront, FirstFault, header, reservations, token}
use Rattle.fdt_reader.specs.Reader.{Outcome, refused, accepted, refused_at, from_walk, from_reservations, outcome, answered_as, answer_of, filled, list_as, list_after, Read}

module _ (b : List ℕ) where
  abbrev areas : Areas
  areas = areas_of b

  -- the blob has a fault, or all of it is read
  pub data Way : Outcome → Type 0 where
    faulty : {f : Fault} → FirstFault b f → Way (refused f)
    all_read : (o : GoodFront b) {ts : List Entry} → reader_walk b areas (walk_start areas) ≡ reads ts → Way (accepted o.found ts)

  by_walk : (o : GoodFront b) (w : ReaderWalk) → reader_walk b areas (walk_start areas) ≡ w → Way (from_walk o.found w)
  unfolding from_walk
  by_walk o (stops f) w = faulty (token o ((stops_exactly b areas f).0 w))
  by_walk o (reads ts) w = all_read o w

  by_reservations : good_header b ≡ true → (rs : Option (List Reservation)) → read_reservations b areas ≡ rs → Way (from_reservations b areas rs)
  unfolding from_reservations refused_at
  by_reservations h none r = faulty (reservations h r)
  by_reservations h (some rs) r = by_walk (record { header = h; found = rs; reservations = r }) (reader_walk b areas (walk_start areas)) refl

  by_header : (t : Bool) → good_header b ≡ t → Way (cond t (from_reservations b areas (read_reservations b areas)) (refused_at 0 Header))
  unfolding refused_at
  by_header true h = by_reservations h (read_reservations b areas) refl
  by_header false h = faulty (header h)

  pub way : Way (outcome b)
  unfolding outcome
  way = by_header (good_header b) refl

  -- and the other way round
  pub from-walk : (o : GoodFront b) → outcome b ≡ from_walk o.found (reader_walk b areas (walk_start areas))
  unfolding outcome from_reservations
  from-walk o = rw (o.header, o.reservations)

  pub fault-refused : {f : Fault} → FirstFault b f → outcome b ≡ refused f
  unfolding outcome from_reservations from_walk refused_at
  fault-refused (header h) = rw h
  fault-refused (reservations h r) = rw (h, r)
  fault-refused (token {f} o m) = from-walk o ∙ rw ((stops_exactly b areas f).1 m)

  -- what a reading finds has a good front
  abbrev pub parts_front : {d : Description} → Parts b d → GoodFront b
  parts_front {d} p = record { header = p.header; found = d.reservations; reservations = p.reservations }

  -- ---- a call with a list

  module _ (list : List ℕ) where
    -- the first fault is answered
    pub refused-read : {f : Fault} → outcome b ≡ refused f → Read b list list (Err (error.Refused f.refusal))
    unfolding answer_of answered_as list_after list_as
    refused-read e = record { answer = rw e; list = rw e }

    module _ {rs : List Reservation} {ts : List Entry} (e : outcome b ≡ accepted rs ts) where
      -- the list has too little room
      pub accepted-short : length list / 4 < length ts → Read b list list (Err error.ShortList)
      unfolding answer_of answered_as list_after list_as
      accepted-short less = record { answer = rw (e, lt-ltb _ _ less); list = rw (e, lt-ltb _ _ less) }

      -- the list has room
      pub accepted-done : length ts ≤ length list / 4 → Read b list (filled list ts) (Ok (record { boot = (areas_of b).boot; reservations = length rs; entries = length ts }))
      unfolding answer_of answered_as list_after list_as
      accepted-done room = record { answer = rw (e, le-ltb _ _ room); list = rw (e, le-ltb _ _ room) }
