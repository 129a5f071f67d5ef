-- What a survey has seen is what the reader answers.
use mathlib.Core.Path.{◌≡◌, refl, sym, ap, ◌∙◌}
use mathlib.Core.List.{List}
use Prim.Native.Nat.{ℕ, ◌/◌, ◌≤◌, ◌<◌}
use native.Mathlib.Omega.{arith}
use mir.Syntax.{w8}
use mir.Val.{Fits}
use lib.ListN.{length, get_or}
use Rattle.std.specs.declared.result.Result.TheVariants.{Ok, Err}
use Rattle.fdt_format.specs.declared.Entry.{Entry}
use Rattle.fdt_format.specs.Reading.{areas_of}
use Rattle.fdt_format.specs.Walk.{walk_start}
use Rattle.fdt_read_token.specs.Trimmed.{trimmed, Trimmed}
use Rattle.fdt_walk.specs.declared.Fault.{Fault}
use Rattle.fdt_walk.specs.ReaderWalk.{reads, reader_walk}
use Rattle.fdt_reader.specs.declared.Progress.{Progress}
use Rattle.fdt_reader.specs.declared.ReadError.TheVariants as error
use Rattle.fdt_reader.specs.declared.Surveyed.{Surveyed}
use Rattle.fdt_reader.specs.Numbers.{GoodFront}
use Rattle.fdt_reader.specs.Pass.{Placed, Continues, first}
use Rattle.fdt_reader.specs.Reader.{Outcome, refused, accepted, outcome, surveyed_as, survey_of, Read}
use Rattle.fdt_reader.proofs.Header.{cut_ready, start-trimmed}
use Rattle.fdt_reader.proofs.Outcomes.{Way, faulty, all_read, way, refused-read, accepted-short, accepted-done}
use Rattle.fdt_reader.proofs.Whole.{first-placed, fills_list}

-- a survey of a good blob, with the reservations and entries that were counted
pub record Seen (b : List ℕ) (s : Surveyed) : Type 0 where
  pub front : GoodFront b
  pub read : List Entry
  pub walked : reader_walk b (areas_of b) (walk_start (areas_of b)) ≡ reads read
  pub outcome_is : outcome b ≡ accepted front.found read
  pub survey_is : s ≡ record { areas = trimmed b (areas_of b); reservations = length front.found; entries = length read }

module _ (b : List ℕ) where
  see : {o : Outcome} → Way b o → o ≡ outcome b → (s : Surveyed) → Ok s ≡ surveyed_as (trimmed b (areas_of b)) o → Seen b s
  unfolding surveyed_as
  see (faulty f) e s q = absurd (let z : ◌≡◌ {A = ℕ} 0 1 = cc in omega arith)
  see (all_read o {ts} w) e s q = record { front = o; read = ts; walked = w; outcome_is = sym e; survey_is = cc }

  pub seen_readable : {s : Surveyed} → Ok s ≡ survey_of b → Seen b s
  unfolding survey_of
  seen_readable q = see (way b) refl _ q

  refused_is : (o : Outcome) (fault : Fault) → Err fault ≡ surveyed_as (trimmed b (areas_of b)) o → o ≡ refused fault
  unfolding surveyed_as
  refused_is (refused f) fault q = let e : f ≡ fault = cc in ap refused e
  refused_is (accepted rs ts) fault q = absurd (let z : ◌≡◌ {A = ℕ} 0 1 = cc in omega arith)

  module _ {s : Surveyed} (seen : Seen b s) where
    areas_are : s.areas ≡ trimmed b (areas_of b)
    areas_are = ap (λ (x : Surveyed). x.areas) seen.survey_is

    entries_are : s.entries ≡ length seen.read
    entries_are = ap (λ (x : Surveyed). x.entries) seen.survey_is

    -- the walk with these areas
    seen_walk : reader_walk b s.areas (walk_start s.areas) ≡ reads seen.read
    seen_walk = rw areas_are (start-trimmed b ∙ seen.walked)

    -- a pass may begin
    pub seen_ready : ((i : ℕ) → Fits w8 (get_or b i 0)) → Trimmed b s.areas × Placed s.areas (first s.areas)
    seen_ready bytes = let r = cut_ready b seen.front.header bytes refl areas_are in (r.0, first-placed r.1)

  module _ (list : List ℕ) where
    -- the first fault is answered
    pub reads-refused : {fault : Fault} → Err fault ≡ survey_of b → Read b list list (Err (error.Refused fault.refusal))
    unfolding survey_of
    reads-refused {fault} q = refused-read b list (refused_is (outcome b) fault q)

    module _ {s : Surveyed} (seen : Seen b s) where
      -- the list has too little room
      pub reads_short : length list / 4 < s.entries → Read b list list (Err error.ShortList)
      reads_short h = accepted-short b list seen.outcome_is (omega (arith, entries_are seen))

      -- the list has room, and a pass filled it
      pub reads-done : {list' : List ℕ} (r : Progress) → s.entries ≤ length list / 4 → Continues b s.areas list (first s.areas) list' r
          → Read b list list' (Ok (record { boot = s.areas.boot; reservations = s.reservations; entries = s.entries }))
      unfolding trimmed
      reads-done r h pass =
          let room : length seen.read ≤ length list / 4 = omega (arith, entries_are seen) in
          rw (fills_list list r seen.read (seen_walk seen) room pass, seen.survey_is) (accepted-done b list seen.outcome_is room)
