-- What a survey knows of a header: its areas are inside the blob; and its answer, test by test.
use mathlib.Core.Path.{◌≡◌, refl, ap, ◌∙◌}
use mathlib.Core.Bool.{Bool, true, false, ◌&&◌, and-false}
use mathlib.Core.List.{List}
use mathlib.Core.Option.{Option, none, some}
use Prim.Native.Nat.{ℕ, ◌%◌, ◌≤◌, ◌<◌, ◌^◌}
use native.Mathlib.Omega.{arith}
use borrow.Author.Tests.{leb-true, eqb-true}
use mir.Syntax.{w8}
use mir.Val.{Fits}
use lib.Dec.{eqb, leb}
use lib.ListN.{length, get_or}
use Rattle.std.specs.declared.result.Result.{Result}
use Rattle.std.specs.declared.result.Result.TheVariants.{Ok, Err}
use Rattle.fdt_bytes.specs.BigEndian.{word_at}
use Rattle.fdt_bytes.proofs.BigEndian.{word_bytes}
use Rattle.fdt_bytes.proofs.Tests.{both}
use Rattle.fdt_format.specs.declared.Areas.{Areas}
use Rattle.fdt_format.specs.declared.Unreadable.TheVariants.{Reservations}
use Rattle.fdt_format.specs.Description.{Reservation}
use Rattle.fdt_format.specs.Reading.{areas_of, good_words, good_areas, good_header, read_reservations}
use Rattle.fdt_format.specs.Walk.{walk_start}
use Rattle.fdt_header.specs.Header.{magic, version, last_compatible, header_size}
use Rattle.fdt_read_header.specs.Counted.{counted}
use Rattle.fdt_read_token.specs.Inside.{Inside}
use Rattle.fdt_read_token.specs.Trimmed.{trimmed, Trimmed}
use Rattle.fdt_read_token.proofs.Trimmed.{trimmed_is}
use Rattle.fdt_walk.specs.declared.Fault.{Fault}
use Rattle.fdt_walk.specs.declared.Refusal.TheVariants.{Header, Unreadable}
use Rattle.fdt_walk.specs.ReaderWalk.{ReaderWalk, stops, reads, reader_walk}
use Rattle.fdt_walk.proofs.Walked.{walk-trimmed}
use Rattle.fdt_reader.specs.Pass.{counted_walk}
use Rattle.fdt_reader.specs.Reader.{SurveyAnswer, placed, refused_at, from_walk, from_reservations, outcome, surveyed_as, survey_of}

-- ---- a good header

-- good words say that a header is there, and the length
words_say : (b : List ℕ) → good_words b ≡ true → (40 ≤ length b) × (word_at b 4 ≡ length b)
unfolding good_words
words_say b w =
    let front : Bool = leb header_size (length b) && eqb (word_at b 0) magic in
    let total : Bool = eqb (word_at b 4) (length b) in
    let h = (both (front && total) (eqb (word_at b 20) version) (both _ (eqb (word_at b 24) last_compatible) w).0).0 in
    let f = both front total h in
    (leb-true _ _ (both _ _ f.0).0, eqb-true _ _ f.1)

pub long : (b : List ℕ) → good_words b ≡ true → 40 ≤ length b
long b w = (words_say b w).0

module _ (b : List ℕ) (g : good_header b ≡ true) where
  words_good : good_words b ≡ true
  unfolding good_header
  words_good = (both _ _ g).0

  areas_good : good_areas (areas_of b) (length b) ≡ true
  unfolding good_header
  areas_good = (both (good_words b) _ g).1

  small : ((i : ℕ) → Fits w8 (get_or b i 0)) → length b < 2 ^ 32
  small bytes =
      let w = words_say b words_good in
      omega (arith, w.1, word_bytes b 4 (omega (arith, w.0)), bytes 4, bytes 5, bytes 6, bytes 7)

  -- its areas are inside the blob
  inside : ((i : ℕ) → Fits w8 (get_or b i 0)) → Inside b (areas_of b)
  unfolding good_areas areas_of
  inside bytes =
      let a : Areas = areas_of b in
      let aligned : Bool = eqb (a.reservations % 8) 0 && eqb (a.structure % 4) 0 in
      let structure-in : Bool = leb a.structure_end (length b) in
      let e = both (aligned && structure-in) _ areas_good in
      record { structure = leb-true _ _ (both aligned structure-in e.0).1; order = omega arith; strings = leb-true _ _ e.1; small = small bytes }

-- a structure begins before its end, and strings before theirs
areas_order : (b : List ℕ) → ((areas_of b).structure ≤ (areas_of b).structure_end) × ((areas_of b).strings ≤ (areas_of b).strings_end)
unfolding areas_of
areas_order b = (omega arith, omega arith)

-- areas with the strings cut, where a pass may begin
module _ (b : List ℕ) (g : good_header b ≡ true) (bytes : (i : ℕ) → Fits w8 (get_or b i 0)) {a : Areas} (q : a ≡ areas_of b) where
  pub areas_inside : Inside b a
  areas_inside = rw q (inside b g bytes)

  pub cut_ready : {cut : Areas} → cut ≡ trimmed b a → Trimmed b cut × (cut.structure ≤ cut.structure_end)
  unfolding trimmed
  cut_ready e = rw (e, q) (trimmed_is b (areas_of b) (inside b g bytes), (areas_order b).0)

-- the walk is the same if the strings are cut
pub start-trimmed : (b : List ℕ) → reader_walk b (trimmed b (areas_of b)) (walk_start (trimmed b (areas_of b))) ≡ reader_walk b (areas_of b) (walk_start (areas_of b))
unfolding walk_start trimmed
start-trimmed b = walk-trimmed b (areas_of b) (areas_order b).1 (walk_start (areas_of b))

-- ---- the answer of a survey

-- what a survey answers after the reservations, by the count of the entries
abbrev pub surveyed_from : Areas → ℕ → Result ℕ Fault → SurveyAnswer
surveyed_from cut n (Ok m) = Ok (record { areas = cut; reservations = n; entries = m })
surveyed_from cut n (Err fault) = Err fault

module _ (b : List ℕ) (a cut : Areas) where
  walk-answer : (rs : List Reservation) (w : ReaderWalk) → surveyed_from cut (length rs) (counted_walk w) ≡ surveyed_as cut (from_walk rs w)
  unfolding counted_walk surveyed_as from_walk
  walk-answer rs (stops fault) = refl
  walk-answer rs (reads ts) = refl

  pair_answer : (rs : Option (List Reservation)) {fault : Fault} → ◌≡◌ {A = Result ℕ Fault} (Err fault) (placed a.reservations (counted rs)) → Err fault ≡ surveyed_as cut (from_reservations b a rs)
  unfolding counted surveyed_as from_reservations refused_at
  pair_answer none {fault} e = let same : fault ≡ record { refusal = Unreadable Reservations; place = a.reservations } = cc in ap Err same
  pair_answer (some rs) e = absurd (let z : ◌≡◌ {A = ℕ} 0 1 = cc in omega arith)

  structure-answer : (rs : Option (List Reservation)) (n : ℕ) → ◌≡◌ {A = Result ℕ Fault} (Ok n) (placed a.reservations (counted rs))
      → surveyed_from cut n (counted_walk (reader_walk b a (walk_start a))) ≡ surveyed_as cut (from_reservations b a rs)
  unfolding counted from_reservations
  structure-answer none n e = absurd (let z : ◌≡◌ {A = ℕ} 0 1 = cc in omega arith)
  structure-answer (some rs) n e = let same : n ≡ length rs = cc in rw same (walk-answer rs (reader_walk b a (walk_start a)))

module _ (b : List ℕ) where
  pub bad_words : good_words b ≡ false → Err (record { refusal = Header; place = 0 }) ≡ survey_of b
  unfolding survey_of surveyed_as outcome refused_at good_header
  bad_words w = rw w

  module _ {a : Areas} (q : a ≡ areas_of b) where
    pub bad_areas : good_areas a (length b) ≡ false → Err (record { refusal = Header; place = 0 }) ≡ survey_of b
    unfolding survey_of surveyed_as outcome refused_at good_header
    bad_areas g = rw (← q, g, and-false (good_words b))

    pub header-good : good_words b ≡ true → good_areas a (length b) ≡ true → good_header b ≡ true
    unfolding good_header
    header-good w g = rw (w, ← q) g

    module _ (h : good_header b ≡ true) where
      pub no_pair : {fault : Fault} → ◌≡◌ {A = Result ℕ Fault} (Err fault) (placed a.reservations (counted (read_reservations b a))) → Err fault ≡ survey_of b
      unfolding survey_of outcome
      no_pair e = rw (h, ← q) (pair_answer b a (trimmed b a) (read_reservations b a) e)

      pub structure-surveyed : {n : ℕ} {cut : Areas} {r : Result ℕ Fault} → ◌≡◌ {A = Result ℕ Fault} (Ok n) (placed a.reservations (counted (read_reservations b a))) → cut ≡ trimmed b a
          → r ≡ counted_walk (reader_walk b cut (walk_start cut)) → surveyed_from cut n r ≡ survey_of b
      unfolding survey_of outcome
      structure-surveyed {n} e t w =
          rw (w, t, h, q)
          (ap (λ (w : ReaderWalk). surveyed_from (trimmed b (areas_of b)) n (counted_walk w)) (start-trimmed b)
          ∙ structure-answer b (areas_of b) (trimmed b (areas_of b)) (read_reservations b (areas_of b)) n (rw q at e))
