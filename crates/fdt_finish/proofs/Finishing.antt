-- Laws of a finish: the lengths of what it writes, exactly when it is accepted or refused, and what an accepted one may rely on.
use mathlib.Core.Path.{◌≡◌, refl, sym, ap, subst, ◌∙◌}
use mathlib.Core.Bool.{Bool, true, false}
use mathlib.Core.List.{List}
use Prim.Native.Nat.{ℕ, ◌+◌, ◌*◌, ◌^◌, ◌≤◌, ◌<◌}
use native.Mathlib.Nat.{zero-add}
use native.Mathlib.Omega.{arith}
use borrow.Author.Tests.{eqb-true, not-false}
use lib.Dec.{eqb}
use lib.ListN.{length, take, get_or, length-take}
use Rattle.std.proofs.lemmas.List.{get_or_default}
use Rattle.fdt_bytes.specs.BigEndian.{big_endian, cell_bytes}
use Rattle.fdt_bytes.specs.Splice.{over, splice}
use Rattle.fdt_bytes.proofs.BigEndian.{length-big_endian}
use Rattle.fdt_bytes.proofs.Cells.{Written, written-more}
use Rattle.fdt_bytes.proofs.Splice.{length-splice, lent, splice-splice}
use Rattle.fdt_header.specs.Header.{structure_start, header_words, header_bytes}
use Rattle.fdt_format.specs.Tokens.{final_token, final_bytes}
use Rattle.fdt_header.proofs.HeaderBytes.{length-header}
use Rattle.fdt_format.proofs.Tokens.{length_final}
use Rattle.fdt_record.specs.declared.Record.{Record}
use Rattle.fdt_record.specs.Answers.{Done, accepts, upon}
use Rattle.fdt_record.specs.Limits.{blob_ceiling}
use Rattle.fdt_record.specs.Rows.{first}
use Rattle.fdt_record.specs.Tests.{alone_rows, blob_rows, strings_rows}
use Rattle.fdt_record.proofs.Answers.{accepts-done, upon-done, upon-refused}
use Rattle.fdt_record.proofs.FirstTests.{strings-passed}
use Rattle.fdt_record.proofs.Fits.{FitBlob, fit_blob, FitStrings, fit_strings, not_overfull}
use Rattle.fdt_record.proofs.Rows.{ByName, by_name, Exactly, exactly}
use Rattle.fdt_finish.specs.Finish.{used_strings, finish_rows, finish_answer, finished_record, finished_blob, finish_blob}

-- word 9 and then the strings, into the rest of the blob
pub put_final : (strings rest r₁ r₂ : List ℕ) → 4 ≤ length rest → r₁ ≡ over (big_endian 4 final_token) rest → r₂ ≡ splice 4 strings r₁ → r₂ ≡ over (final_bytes strings) rest
unfolding splice final_bytes
put_final strings rest r₁ r₂ h e₁ e₂ =
    e₂ ∙ ap (splice 4 strings) e₁ ∙ splice-splice 0 4 (big_endian 4 final_token) strings rest (omega (arith, length-big_endian 4 final_token)) h

-- the word that is rewritten next
pub word_more : {words before now after : List ℕ} {i : ℕ} → 4 * length words ≤ length before → Written (big_endian 4) 4 0 words before now i → i < length words → after ≡ splice (4 * i) (big_endian 4 (get_or words i 0)) now → Written (big_endian 4) 4 0 words before after (i + 1)
word_more {words} {before} {now} {after} {i} room w h e =
    let one = big_endian 4 (get_or words i 0) in
    let put = lent (0 + 4 * i) one now _ (omega (arith, w.kept)) refl in
    subst (λ (l : List ℕ). Written (big_endian 4) 4 0 words before l (i + 1)) (put ∙ ap (λ (n : ℕ). splice n one now) (zero-add (4 * i)) ∙ sym e)
    (written-more (length-big_endian 4) (omega arith) w h refl (get_or_default words i 0 _ h) refl)

module _ (w : Record) (lent : ℕ) (strings : List ℕ) where
  pub finish_exactly : Exactly (finish_rows w lent strings) (finish_answer w lent strings)
  unfolding finish_answer
  finish_exactly = exactly (finish_rows w lent strings)

-- what an accepted finish may rely on
pub record Finishable (w : Record) (lent : ℕ) (strings : List ℕ) : Type 0 where
  pub unfinished : w.finished ≡ false
  pub blob : FitBlob w lent
  pub names : FitStrings w strings
  pub depth : w.node_depth ≡ 0
  pub started : structure_start w.reservations ≤ w.blob_used
  pub room : w.blob_used + (4 + w.strings_used) ≤ w.blob_room
  pub small : w.blob_room ≤ blob_ceiling
  pub within : w.blob_room ≤ lent
  pub stored : w.strings_used ≤ length strings

pub finish-fits : (w : Record) (lent : ℕ) (strings : List ℕ) → finish_answer w lent strings ≡ Done → Finishable w lent strings
unfolding finish_rows strings_rows blob_rows alone_rows ByName finished_record
finish-fits w lent strings e =
    by_name (finish_rows w lent strings) ((finish_exactly w lent strings).accepted.0 e)
    (λ unfinished figures blob stored unclosed over.
    let b = fit_blob w lent blob in
    let s = fit_strings w strings stored in
    record {
      unfinished = unfinished;
      blob = b;
      names = s;
      depth = eqb-true w.node_depth 0 (not-false (eqb w.node_depth 0) unclosed);
      started = b.started;
      room = not_overfull (finished_record w) over;
      small = b.small;
      within = b.within;
      stored = omega (arith, s.used, s.within);
    })

-- what `finish_tests` asks of a record that passed the first tests, and `finish` of one that passed all
pub finish_small : (w : Record) (lent : ℕ) (strings : List ℕ) → first (strings_rows w lent strings) ≡ Done → w.blob_used + (4 + w.strings_used) < 2 ^ 64
finish_small w lent strings e =
    let p = strings-passed w lent strings e in omega (arith, p.blob.used, p.blob.small, p.strings.used, p.strings.small)

pub finish_within : (w : Record) (lent : ℕ) (strings : List ℕ) → finish_answer w lent strings ≡ Done → (structure_start w.reservations ≤ w.blob_used) × (w.blob_used + (4 + w.strings_used) < 2 ^ 32) × (w.blob_used + (4 + w.strings_used) ≤ lent) × (w.strings_used ≤ length strings)
finish_within w lent strings e =
    let f = finish-fits w lent strings e in
    (f.started, omega (arith, f.room, f.small), omega (arith, f.room, f.within), f.stored)

module _ (w : Record) (blob strings : List ℕ) where
  -- what goes into the rest and then the header
  pub finished_by_parts : {words first second : List ℕ} → first ≡ splice w.blob_used (final_bytes (used_strings w strings)) blob → words ≡ header_words w.reservations (w.blob_used + 4) w.strings_used w.boot_cpuid_phys → second ≡ splice 0 (cell_bytes 4 words) first → second ≡ finished_blob w blob strings
  unfolding finished_blob header_bytes
  finished_by_parts {words} {first} {second} p e r = r ∙ ap (λ (l : List ℕ). splice 0 (cell_bytes 4 l) first) e ∙ ap (splice 0 _) p

  -- an accepted finish keeps the blob's length
  pub length_finished : finish_answer w (length blob) strings ≡ Done → length (finished_blob w blob strings) ≡ length blob
  unfolding finished_blob used_strings
  length_finished e =
      let f = finish-fits w (length blob) strings e in
      let used = take w.strings_used strings in
      let n : length (final_bytes used) ≤ 4 + w.strings_used = omega (arith, length_final used, length-take w.strings_used strings) in
      let header = header_bytes w.reservations (w.blob_used + 4) w.strings_used w.boot_cpuid_phys in
      let l = length-splice w.blob_used (final_bytes used) blob (omega (arith, n, f.room, f.within)) in
      length-splice 0 header (splice w.blob_used (final_bytes used) blob)
      (omega (arith, l, f.started, f.room, f.within, length-header w.reservations (w.blob_used + 4) w.strings_used w.boot_cpuid_phys))
      ∙ l

  -- whatever is answered, the blob keeps its length
  pub length-finish : length (finish_blob w blob strings) ≡ length blob
  unfolding finish_blob
  length-finish = go (accepts (finish_answer w (length blob) strings)) refl
    where
      go : (b : Bool) → accepts (finish_answer w (length blob) strings) ≡ b → length (upon (finish_answer w (length blob) strings) (finished_blob w blob strings) blob) ≡ length blob
      go true a =
          let d = accepts-done (finish_answer w (length blob) strings) a in
          ap length (upon-done (finish_answer w (length blob) strings) (finished_blob w blob strings) blob d) ∙ length_finished d
      go false a = ap length (upon-refused (finish_answer w (length blob) strings) (finished_blob w blob strings) blob a)
