-- What opening answers and leaves (document 01: opening tests 17, 19, 8 (any pair), 9, 14).
use Rattle.std.specs.Prelude.{◌≡◌, Bool, true, false, not, List, [], ◌∷◌, ◌++◌, ℕ, ◌/◌, ◌%◌, eqb, ltb, length}
use Rattle.fdt_bytes.specs.Padding.{zeros}
use Rattle.fdt_bytes.specs.Splice.{splice}
use Rattle.fdt_reserve.specs.Entry.{invalid}
use Rattle.fdt_reserve.specs.Overlap.{start, size, some_below, overlapping}
use Rattle.fdt_header.specs.Header.{header_size, structure_start, reservation_bytes}
use Rattle.fdt_record.specs.declared.Error.TheVariants.{Misfit, TooManyReservations, InvalidMemoryReservation, OverlappingMemoryReservations, BlobRoom}
use Rattle.fdt_record.specs.declared.Outcome.{Outcome}
use Rattle.fdt_record.specs.declared.Record.{Record}
use Rattle.fdt_record.specs.Answers.{Answer, upon}
use Rattle.fdt_record.specs.Limits.{blob_ceiling, strings_ceiling, phandles_ceiling, most_reservations, usable}
use Rattle.fdt_record.specs.Misfits.{overfull}
use Rattle.fdt_record.specs.Rows.{Row, ◌⇒◌, first}

-- how many reservations the numbers are, address and size in turn
abbrev pub count : List ℕ → ℕ
count numbers = length numbers / 2

-- some reservation is refused 8
unfoldable pub some_invalid : List ℕ → Bool
some_invalid numbers = some_below (count numbers) (λ k. invalid (start numbers k) (size numbers k))

-- an accepted opening's record: n, the usable lengths, and 56 + 16n as the used blob length and as the place where properties start
-- (document 02, request 4/14); all else 0, no node ended, not finished
unfoldable pub opened_record : ℕ → ℕ → ℕ → List ℕ → Record
opened_record blobLength stringsLength phandlesLength numbers = record {
  blob_room = usable blob_ceiling blobLength;
  blob_used = structure_start (count numbers);
  strings_room = usable strings_ceiling stringsLength;
  strings_used = 0;
  phandles_room = usable phandles_ceiling phandlesLength;
  phandles_used = 0;
  reservations = count numbers;
  node_depth = 0;
  node_start = structure_start (count numbers);
  boot_cpuid_phys = 0;
  node_ended = false;
  finished = false;
}

-- the tests, in their order, of a call that is lent buffers of these lengths
unfoldable pub opening_rows : ℕ → ℕ → ℕ → List ℕ → List Row
opening_rows blobLength stringsLength phandlesLength numbers =
    (not (eqb (length numbers % 2) 0) ⇒ Misfit)
    ∷ (ltb most_reservations (count numbers) ⇒ TooManyReservations)
    ∷ (some_invalid numbers ⇒ InvalidMemoryReservation)
    ∷ (overlapping numbers ⇒ OverlappingMemoryReservations)
    ∷ (overfull (opened_record blobLength stringsLength phandlesLength numbers) ⇒ BlobRoom)
    ∷ []

-- the answer
unfoldable pub opening_answer : ℕ → ℕ → ℕ → List ℕ → Answer
opening_answer blobLength stringsLength phandlesLength numbers = first (opening_rows blobLength stringsLength phandlesLength numbers)

-- a refused opening's record: all numbers 0 and marked finished
unfoldable pub closed_record : Record
closed_record = record {
  blob_room = 0;
  blob_used = 0;
  strings_room = 0;
  strings_used = 0;
  phandles_room = 0;
  phandles_used = 0;
  reservations = 0;
  node_depth = 0;
  node_start = 0;
  boot_cpuid_phys = 0;
  node_ended = false;
  finished = true;
}

-- what an accepted opening writes: a header of zeros, and the reservations
unfoldable pub opening_bytes : List ℕ → List ℕ
opening_bytes numbers = zeros header_size ++ reservation_bytes numbers

-- the answer and the record, for the lengths of the three buffers
unfoldable pub opening : ℕ → ℕ → ℕ → List ℕ → Outcome (Unit {0})
opening blobLength stringsLength phandlesLength numbers = record {
  answer = opening_answer blobLength stringsLength phandlesLength numbers;
  after = upon (opening_answer blobLength stringsLength phandlesLength numbers) (opened_record blobLength stringsLength phandlesLength numbers) closed_record;
}

-- the blob afterwards: an accepted opening's bytes in front, and nothing else changed
unfoldable pub opening_blob : List ℕ → ℕ → ℕ → List ℕ → List ℕ
opening_blob blob stringsLength phandlesLength numbers =
    upon (opening_answer (length blob) stringsLength phandlesLength numbers) (splice 0 (opening_bytes numbers) blob) blob

-- the outcome of a call
pub record OpeningOutcome (blob : List ℕ) (stringsLength phandlesLength : ℕ) (numbers : List ℕ) (r : Outcome (Unit {0})) (after : List ℕ) : Type 0 where
  pub result : r ≡ opening (length blob) stringsLength phandlesLength numbers
  pub bytes : after ≡ opening_blob blob stringsLength phandlesLength numbers
