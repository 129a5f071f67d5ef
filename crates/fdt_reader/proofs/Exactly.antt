-- Each answer of a survey and each number of the reader is given exactly when its case holds. The reader accepts exactly what the
-- reading describes, nested at most 64 deep, and tells just that.
use mathlib.Core.Logic.{◌↔◌}
use mathlib.Core.Path.{◌≡◌, refl, sym, ap, subst, ◌∙◌}
use mathlib.Core.Bool.{Bool, true, false}
use mathlib.Core.List.{List, [], map}
use mathlib.Core.Option.{some}
use Prim.Native.Nat.{ℕ, ◌/◌, ◌≤◌, ◌<◌}
use native.Mathlib.Omega.{arith}
use borrow.Author.Tests.{ltb-true, ltb-false}
use lib.Dec.{ltb}
use lib.ListN.{length, length-map}
use Rattle.std.specs.declared.result.Result.TheVariants.{Ok, Err}
use Rattle.fdt_format.specs.declared.Entry.{Entry}
use Rattle.fdt_format.specs.declared.Unreadable.TheVariants.{Reservations, Structure, NameOffset}
use Rattle.fdt_format.specs.Description.{Description}
use Rattle.fdt_format.specs.Events.{events}
use Rattle.fdt_format.specs.Reading.{areas_of, event_at, reading}
use Rattle.fdt_format.specs.Walk.{walk_start}
use Rattle.fdt_format.proofs.Nested.{Parts, reading_is, read_exactly}
use Rattle.fdt_walk.specs.declared.Refusal.{Refusal}
use Rattle.fdt_walk.specs.declared.Refusal.TheVariants as refusal
use Rattle.fdt_walk.specs.Depth.{most_open, NestedAtMost}
use Rattle.fdt_walk.specs.Refusals.{number_of as refusalNumber}
use Rattle.fdt_walk.specs.ReaderWalk.{reads, reader_walk}
use Rattle.fdt_walk.proofs.Capped.{Shallow, shallow-nodes, reads_exactly, deep_stops}
use Rattle.fdt_reader.specs.declared.ReadError.TheVariants as error
use Rattle.fdt_reader.specs.Numbers.{GoodFront, Describes, Numbered, first_fault, short_list, done, Surveys, refuses, readable, Tells}
use Rattle.fdt_reader.specs.Reader.{ReadAnswer, SurveyAnswer, number_of, survey_number, no_values, values_of, Outcome, accepted, from_walk, outcome, surveyed_as, survey_of, filled, Read}
use Rattle.fdt_reader.proofs.Outcomes.{Way, faulty, all_read, way, from-walk, fault-refused, parts_front, refused-read, accepted-short, accepted-done}

-- the number of a refusal is not 0
refusal_numbered : (r : Refusal) → refusalNumber r ≡ 0 → ⊥
refusal_numbered refusal.Header q = omega arith
refusal_numbered (refusal.Unreadable Reservations) q = omega arith
refusal_numbered (refusal.Unreadable Structure) q = omega arith
refusal_numbered (refusal.Unreadable NameOffset) q = omega arith
refusal_numbered refusal.Depth q = omega arith

-- ---- what is described

module _ (b : List ℕ) where
  -- a walk that the reader takes to its end describes something
  walk_describes : (o : GoodFront b) (ts : List Entry) → reader_walk b (areas_of b) (walk_start (areas_of b)) ≡ reads ts → (d : Description) × Describes b d
  walk_describes o ts w =
      let g = (reads_exactly b (areas_of b) ts).0 w in
      let x = read_exactly b o.found ts o.header o.reservations g.0 in
      (_, record { read = x.2; shallow = (shallow-nodes most_open x.0).0 (subst (Shallow most_open) (sym x.1) g.1) })

  -- and what is described is read to its end
  module _ {d : Description} (h : Describes b d) where
    parts : Parts b d
    parts = (reading_is b d).0 h.read

    described-read : outcome b ≡ accepted d.reservations parts.entries
    unfolding from_walk
    described-read =
        let s : Shallow most_open (map (event_at b) parts.entries) = subst (Shallow most_open) parts.nodes ((shallow-nodes most_open d.nodes).1 h.shallow) in
        from-walk b (parts_front b parts) ∙ rw ((reads_exactly b (areas_of b) parts.entries).1 (parts.walked, s))

    described-count : length (events d.nodes []) ≡ length parts.entries
    described-count = ap length parts.nodes ∙ length-map parts.entries (event_at b)

    -- what the reader does then depends on the room of the list alone
    module _ (list : List ℕ) where
      described-short : length list / 4 < length (events d.nodes []) → Read b list list (Err error.ShortList)
      described-short less = accepted-short b list described-read (omega (arith, described-count))

      described-done : length (events d.nodes []) ≤ length list / 4
          → Read b list (filled list parts.entries) (Ok (record { boot = d.boot; reservations = length d.reservations; entries = length (events d.nodes []) }))
      described-done room = rw (parts.boot, ← described-count) at (accepted-done b list described-read (omega (arith, described-count)))

-- ---- each answer exactly when

-- an answer is any other exactly if that one's case holds: each case fixes the answer, and one holds
by_cases : {A : Type 0} {x : A} (Case : A → Type 0) → ((y : A) → Case y → x ≡ y) → (y : A) × Case y → (y : A) → (x ≡ y) ↔ Case y
by_cases Case fixes holds y = (λ q. subst Case (sym (fixes holds.0 holds.1) ∙ q) holds.1, fixes y)

module _ (b : List ℕ) where
  by_survey : {o : Outcome} → Way b o → (s : SurveyAnswer) × Surveys b s
  by_survey (faulty f) = (_, refuses f)
  by_survey (all_read o {ts} w) = (_, readable (walk_describes b o ts w).1)

  surveys : {s : SurveyAnswer} → Surveys b s → survey_of b ≡ s
  unfolding survey_of surveyed_as
  surveys (refuses f) = rw (fault-refused b f)
  surveys (readable h) = rw (described-read b h, described-count b h)

  -- a survey answers s exactly if its case holds
  pub survey_exactly : {r : SurveyAnswer} → r ≡ survey_of b → (s : SurveyAnswer) → (r ≡ s) ↔ Surveys b s
  survey_exactly q = by_cases (Surveys b) (λ _ h. q ∙ surveys h) (by_survey (way b))

module _ (b list : List ℕ) where
  by_room : {d : Description} → Describes b d → (t : Bool) → ltb (length list / 4) (length (events d.nodes [])) ≡ t → (n : ℕ) × Numbered b list n
  by_room h true e = (_, short_list h (ltb-true _ _ e))
  by_room h false e = (_, done h (ltb-false _ _ e))

  by_number : {o : Outcome} → Way b o → (n : ℕ) × Numbered b list n
  by_number (faulty f) = (_, first_fault f)
  by_number (all_read o {ts} w) = by_room (walk_describes b o ts w).1 _ refl

  accepts : {n : ℕ} → Numbered b list n → n ≡ 0 → (d : Description) × Describes b d × (length (events d.nodes []) ≤ length list / 4)
  accepts (first_fault {f} h) q = absurd (refusal_numbered f.refusal q)
  accepts (short_list h less) q = absurd (omega arith)
  accepts (done {d} h room) q = (d, h, room)

-- two calls with the same blob and list have the same answer, and leave the same list
pub one-outcome : {b before after after' : List ℕ} {r r' : ReadAnswer} → Read b before after r → Read b before after' r' → (r ≡ r') × (after ≡ after')
one-outcome p q = (p.answer ∙ sym q.answer, p.list ∙ sym q.list)

-- a call of the reader
module _ {b before after : List ℕ} {r : ReadAnswer} (call : Read b before after r) where
  numbered : {n : ℕ} → Numbered b before n → number_of r ≡ n
  numbered (first_fault f) = ap number_of (one-outcome call (refused-read b before (fault-refused b f))).0
  numbered (short_list h less) = ap number_of (one-outcome call (described-short b h before less)).0
  numbered (done h room) = ap number_of (one-outcome call (described-done b h before room)).0

  -- the answer's number is n exactly if its case holds
  pub number_exactly : (n : ℕ) → (number_of r ≡ n) ↔ Numbered b before n
  number_exactly = by_cases (Numbered b before) (λ _. numbered) (by_number b before (way b))

  -- it is the number of a survey, unless the list is too short
  pub same_number : {s : SurveyAnswer} → s ≡ survey_of b → (number_of r ≡ 30 → ⊥) → number_of r ≡ survey_number s
  same_number {s} q h = by_case ((number_exactly _).0 refl) h
    where
      by_case : {n : ℕ} → Numbered b before n → (n ≡ 30 → ⊥) → n ≡ survey_number s
      by_case (first_fault f) h = ap survey_number (sym (q ∙ surveys b (refuses f)))
      by_case (short_list d less) h = absurd (h refl)
      by_case (done d room) h = ap survey_number (sym (q ∙ surveys b (readable d)))

  -- ---- acceptance

  -- a call is accepted exactly if the blob is read as a description nested at most 64 deep and the list has room
  pub accepted_exactly : (number_of r ≡ 0) ↔ ((d : Description) × Describes b d × (length (events d.nodes []) ≤ length before / 4))
  accepted_exactly = (λ q. accepts b before ((number_exactly 0).0 q) refl, λ x. numbered (done x.1 x.2))

  -- it then tells the description
  pub accepted-tells : (d : Description) → Describes b d → length (events d.nodes []) ≤ length before / 4 → Tells b before after r d
  accepted-tells d h room =
      let q = one-outcome call (described-done b h before room) in
      let p = parts b h in
      record { number = ap number_of q.0; values = ap values_of q.0; entries = p.entries; walked = p.walked; events_are = sym p.nodes; list = q.1 }

  -- ---- refusal

  -- what is read as a description nested deeper is refused for depth
  pub deep_refused : (d : Description) → reading b ≡ some d → (NestedAtMost most_open d.nodes → ⊥) → number_of r ≡ 25
  unfolding from_walk
  deep_refused d read n =
      let p : Parts b d = (reading_is b d).0 read in
      let s = deep_stops b (areas_of b) p.entries p.walked (λ x. n ((shallow-nodes most_open d.nodes).0 (subst (Shallow most_open) (sym p.nodes) x))) in
      ap number_of (one-outcome call (refused-read b before (from-walk b (parts_front b p) ∙ ap (from_walk d.reservations) s.1))).0

  -- a refusal leaves the list as it was
  pub refused-unaltered : (number_of r ≡ 0 → ⊥) → after ≡ before
  refused-unaltered h = by_case ((number_exactly _).0 refl) h
    where
      by_case : {n : ℕ} → Numbered b before n → (n ≡ 0 → ⊥) → after ≡ before
      by_case (first_fault f) h = (one-outcome call (refused-read b before (fault-refused b f))).1
      by_case (short_list d less) h = (one-outcome call (described-short b d before less)).1
      by_case (done d room) h = absurd (h refl)

-- and has no values
pub refused_valueless : (r : ReadAnswer) → (number_of r ≡ 0 → ⊥) → values_of r ≡ no_values
refused_valueless (Ok values) h = absurd (h refl)
refused_valueless (Err (error.Refused refusal)) h = refl
refused_valueless (Err error.ShortList) h = refl
