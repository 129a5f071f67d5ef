-- Laws of opening: when it is accepted and when refused, what an accepted opening may rely on, what it writes, and that it keeps the blob's length.
use mathlib.Core.Path.{◌≡◌, refl, sym, ap, ◌∙◌}
use mathlib.Core.Bool.{Bool, true, false, true≢false}
use mathlib.Core.List.{List}
use Prim.Native.Nat.{ℕ, ◌+◌, ◌*◌, ◌%◌, ◌≤◌}
use native.Mathlib.Nat.{zero-add}
use native.Mathlib.Omega.{arith}
use borrow.Author.Tests.{eqb-true, ltb-false, not-false}
use lib.ListN.{length, length-append}
use Rattle.fdt_bytes.specs.BigEndian.{cell_bytes}
use Rattle.fdt_bytes.specs.Padding.{zeros}
use Rattle.fdt_bytes.specs.Splice.{splice}
use Rattle.fdt_bytes.proofs.BigEndian.{length-cells}
use Rattle.fdt_bytes.proofs.Padding.{length-zeros}
use Rattle.fdt_bytes.proofs.Splice.{length-splice, splice-three}
use Rattle.fdt_reserve.specs.Overlap.{Overlap, start, size, entry_at}
use Rattle.fdt_reserve.proofs.Overlap.{overlapping_exact}
use Rattle.fdt_header.specs.Header.{header_size, structure_start, reservation_bytes}
use Rattle.std.specs.Prelude.{Ok, Err, is_err, cond}
use Rattle.fdt_reserve.specs.declared.FdtReserveEntry.{FdtReserveEntry}
use Rattle.fdt_reserve.specs.Entry.{Reserved, invalid, invalid_reservation, reserved}
use Rattle.fdt_record.specs.declared.Error.{Error}
use Rattle.fdt_record.specs.declared.Outcome.{Outcome}
use Rattle.fdt_record.specs.declared.Record.{Record}
use Rattle.fdt_record.specs.Answers.{Done, accepts}
use Rattle.fdt_record.specs.Limits.{blob_ceiling, most_reservations, usable}
use Rattle.fdt_record.proofs.Answers.{upon-done, upon-err, upon-refused, accepts-done, outcome-accepted, outcome-refused}
use Rattle.fdt_record.proofs.Fits.{usable-within, not_overfull}
use Rattle.fdt_record.proofs.Rows.{ByName, by_name, Exactly, exactly}
use Rattle.fdt_opening.specs.Opening.{count, some_invalid, opening_rows, opening_answer, opened_record, closed_record, opening_bytes, opening, opening_blob, OpeningOutcome}

module _ (numbers : List ℕ) where
  -- three writes, each where the one before ended
  pub three_writes : (blob one two three : List ℕ) → 56 + 8 * length numbers ≤ length blob → one ≡ splice 0 (zeros header_size) blob → two ≡ splice header_size (cell_bytes 8 numbers) one → three ≡ splice (header_size + 8 * length numbers) (zeros 16) two → three ≡ splice 0 (opening_bytes numbers) blob
  unfolding opening_bytes reservation_bytes
  three_writes blob one two three room p q r =
      r
      ∙ ap (splice (header_size + 8 * length numbers) (zeros 16)) (q ∙ ap (splice header_size (cell_bytes 8 numbers)) p)
      ∙ splice-three 0 header_size (header_size + 8 * length numbers) (zeros header_size) (cell_bytes 8 numbers) (zeros 16) blob
      (zero-add _ ∙ length-zeros header_size) (ap (λ (n : ℕ). header_size + n) (length-cells 8 numbers)) (omega arith)

  -- a header, 8 bytes for each number, and 16 zeros
  pub length-opening_bytes : length (opening_bytes numbers) ≡ 56 + 8 * length numbers
  unfolding opening_bytes reservation_bytes
  length-opening_bytes =
      simp (length-append, length-zeros, length-cells) (omega arith)

module _ (blob strings phandles : ℕ) (numbers : List ℕ) where
  pub opening_exactly : Exactly (opening_rows blob strings phandles numbers) (opening_answer blob strings phandles numbers)
  unfolding opening_answer
  opening_exactly = exactly (opening_rows blob strings phandles numbers)

-- what an accepted opening may rely on
pub record OpeningFits (lent : ℕ) (numbers : List ℕ) : Type 0 where
  pub even : length numbers % 2 ≡ 0
  pub few : count numbers ≤ most_reservations
  pub valid : some_invalid numbers ≡ false
  pub apart : Overlap numbers → ⊥
  pub started : structure_start (count numbers) ≤ usable blob_ceiling lent
  pub room : 56 + 8 * length numbers ≤ lent

pub opened-fits : (lent strings phandles : ℕ) (numbers : List ℕ) → opening_answer lent strings phandles numbers ≡ Done → OpeningFits lent numbers
unfolding opening_rows ByName opened_record
opened-fits lent strings phandles numbers e =
    by_name (opening_rows lent strings phandles numbers) ((opening_exactly lent strings phandles numbers).accepted.0 e)
    (λ odd many invalid overlap over.
    let even : length numbers % 2 ≡ 0 = eqb-true (length numbers % 2) 0 (not-false _ odd) in
    let started : structure_start (count numbers) ≤ usable blob_ceiling lent = not_overfull (opened_record lent strings phandles numbers) over in
    record {
      even = even;
      few = ltb-false most_reservations (count numbers) many;
      valid = invalid;
      apart = λ o. true≢false (sym ((overlapping_exact numbers).1 o) ∙ overlap);
      started = started;
      room = omega (arith, (usable-within blob_ceiling lent).0);
    })

-- what `open` asks of an accepted opening
pub opened_within : (lent strings phandles : ℕ) (numbers : List ℕ) → opening_answer lent strings phandles numbers ≡ Done → (56 + 8 * length numbers ≤ lent) × (count numbers ≤ most_reservations)
opened_within lent strings phandles numbers e = let f = opened-fits lent strings phandles numbers e in (f.room, f.few)

module _ (blob : List ℕ) (strings phandles : ℕ) (numbers : List ℕ) where
  -- what an accepted opening writes
  pub accepted-blob : opening_answer (length blob) strings phandles numbers ≡ Done → opening_blob blob strings phandles numbers ≡ splice 0 (opening_bytes numbers) blob
  unfolding opening_blob
  accepted-blob = upon-done (opening_answer (length blob) strings phandles numbers) (splice 0 (opening_bytes numbers) blob) blob

  -- a refused opening writes nothing
  pub refused-blob : accepts (opening_answer (length blob) strings phandles numbers) ≡ false → opening_blob blob strings phandles numbers ≡ blob
  unfolding opening_blob
  refused-blob = upon-refused (opening_answer (length blob) strings phandles numbers) (splice 0 (opening_bytes numbers) blob) blob

  -- the blob keeps its length
  pub length-opening_blob : length (opening_blob blob strings phandles numbers) ≡ length blob
  length-opening_blob = go (accepts (opening_answer (length blob) strings phandles numbers)) refl
    where
      go : (b : Bool) → accepts (opening_answer (length blob) strings phandles numbers) ≡ b → length (opening_blob blob strings phandles numbers) ≡ length blob
      go true e =
          let d = accepts-done (opening_answer (length blob) strings phandles numbers) e in
          ap length (accepted-blob d)
          ∙ length-splice 0 (opening_bytes numbers) blob (omega (arith, length-opening_bytes numbers, (opened-fits (length blob) strings phandles numbers d).room))
      go false e = ap length (refused-blob e)

  -- what an opening gives, by its answer
  pub refused-outcome : {error : Error} → opening_answer (length blob) strings phandles numbers ≡ Err error → (after : Record) → after ≡ closed_record → OpeningOutcome blob strings phandles numbers (record { answer = Err error; after = after }) blob
  unfolding opening opening_blob
  refused-outcome {error} e after f = record {
    result = ap (λ (w : Record). record { answer = Err error; after = w }) f ∙ outcome-refused _ _ e;
    bytes = sym (upon-err _ _ e);
  }

  pub accepted-outcome : opening_answer (length blob) strings phandles numbers ≡ Done → (after : Record) → after ≡ opened_record (length blob) strings phandles numbers → {written : List ℕ} → written ≡ splice 0 (opening_bytes numbers) blob → OpeningOutcome blob strings phandles numbers (record { answer = Done; after = after }) written
  unfolding opening
  accepted-outcome e after f w = record {
    result = ap (λ (x : Record). record { answer = Done; after = x }) f ∙ outcome-accepted _ _ e;
    bytes = w ∙ sym (accepted-blob e);
  }

-- Any two outcomes of a call coincide.
module _ {blob : List ℕ} {strings phandles : ℕ} {numbers : List ℕ} {r s : Outcome (Unit {0})} {a b : List ℕ} (one : OpeningOutcome blob strings phandles numbers r a) (other : OpeningOutcome blob strings phandles numbers s b) where
  pub same-result : r ≡ s
  same-result = one.result ∙ sym other.result

  pub same_bytes : a ≡ b
  same_bytes = one.bytes ∙ sym other.bytes

-- Reservation k, as read from the list, is refused exactly if the definition's test holds.
module _ (numbers : List ℕ) (k : ℕ) (entry : FdtReserveEntry) (answer : Reserved) (read : entry ≡ entry_at numbers k) (made : answer ≡ reserved entry.address entry.size) where
  pub refused_by_test : is_err answer ≡ invalid (start numbers k) (size numbers k)
  unfolding reserved entry_at
  refused_by_test = ap is_err (made ∙ ap (λ (e : FdtReserveEntry). reserved e.address e.size) read) ∙ go (invalid (start numbers k) (size numbers k))
    where
      go : (b : Bool) → is_err (cond b (Err invalid_reservation) (Ok (entry_at numbers k))) ≡ b
      go true = refl
      go false = refl
