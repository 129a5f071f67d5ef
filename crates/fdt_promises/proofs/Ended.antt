-- After an accepted finish: the shown blob is the bytes of the description, which the format can hold.
use mathlib.Core.Path.{◌≡◌, refl, sym, ap, subst, ◌∙◌}
use mathlib.Core.Bool.{Bool, true, false}
use mathlib.Core.List.{List, [], ◌∷◌, ◌++◌, append_assoc, append-nil}
use mathlib.Core.Option.{some}
use Prim.Native.Nat.{ℕ, suc, ◌+◌, ◌*◌, ◌%◌, ◌≤◌, ◌<◌, ◌^◌}
use native.Mathlib.Omega.{arith}
use borrow.Author.Tests.{eqb-false, leb-false}
use lib.Dec.{eqb, leb}
use lib.ListN.{length, take, get_or}
use lib.Seq.{length-take-le, drop_at}
use Rattle.fdt_bytes.specs.Padding.{zeros}
use Rattle.fdt_bytes.specs.Splice.{over, splice}
use Rattle.fdt_bytes.proofs.Padding.{length-zeros}
use Rattle.fdt_bytes.proofs.Splice.{length-splice}
use Rattle.fdt_strings.specs.Entries.{joined}
use Rattle.fdt_reserve.specs.Entry.{invalid}
use Rattle.fdt_reserve.specs.Overlap.{start, size}
use Rattle.fdt_reserve.proofs.Overlap.{some_at}
use Rattle.fdt_format.specs.Blob.{names_of, structure_bytes, numbers_of, blob_from, blob_of, AllPlain, AllReservable, WellFormed}
use Rattle.fdt_format.specs.Description.{Nodes}
use Rattle.fdt_format.specs.Events.{Event, events, nodes_of}
use Rattle.fdt_header.specs.Header.{header_size, reservation_bytes, header_bytes}
use Rattle.fdt_format.specs.Tokens.{final_bytes}
use Rattle.fdt_header.proofs.HeaderBytes.{length-header}
use Rattle.fdt_format.proofs.Nodes.{Accepted, described_by}
use Rattle.fdt_format.proofs.Structure.{structure-size}
use Rattle.fdt_format.proofs.Tokens.{length_final}
use Rattle.fdt_record.specs.Answers.{Done}
use Rattle.fdt_record.specs.Limits.{blob_ceiling, usable}
use Rattle.fdt_bytes.proofs.Tests.{neither}
use Rattle.fdt_opening.specs.Opening.{count, some_invalid}
use Rattle.fdt_finish.specs.Finish.{used_strings, finished_record, finished_blob}
use Rattle.fdt_finish.specs.Shown.{shown}
use Rattle.fdt_finish.proofs.Finishing.{finish-fits, length_finished}
use Rattle.fdt_finish.proofs.Shown.{shown-whole}
use Rattle.fdt_calls.specs.Calls.{to_finish, Desk, answer, after}
use Rattle.fdt_promises.specs.Run.{reservations_of}
use Rattle.fdt_promises.proofs.Desks.{finished_after}
use Rattle.fdt_promises.proofs.Growth.{more-filled}
use Rattle.fdt_promises.proofs.Held.{Open}
use Rattle.fdt_promises.proofs.Usable.{take-splice}

-- ---- reservations

-- numbers in pairs are the numbers of their reservations
pub numbers_paired : (numbers : List ℕ) → length numbers % 2 ≡ 0 → numbers_of (reservations_of numbers) ≡ numbers
unfolding numbers_of reservations_of
numbers_paired [] h = refl
numbers_paired (a ∷ []) h = absurd (omega arith)
numbers_paired (a ∷ b ∷ numbers) h = ap (λ (l : List ℕ). a ∷ b ∷ l) (numbers_paired numbers (omega arith))

pub count_paired : (numbers : List ℕ) → length numbers % 2 ≡ 0 → length (reservations_of numbers) ≡ count numbers
unfolding reservations_of
count_paired [] h = refl
count_paired (a ∷ []) h = absurd (omega arith)
count_paired (a ∷ b ∷ numbers) h = omega (arith, count_paired numbers (omega arith))

-- the format can hold valid reservations
told_valid : (numbers : List ℕ) → length numbers % 2 ≡ 0 → ((k : ℕ) → k < count numbers → invalid (start numbers k) (size numbers k) ≡ false) → AllReservable (reservations_of numbers)
unfolding reservations_of AllReservable invalid start size
told_valid [] h f = tt
told_valid (a ∷ []) h f = absurd (omega arith)
told_valid (a ∷ b ∷ numbers) h f =
    let n = neither (eqb b 0) (leb (2 ^ 64) (a + b)) (f 0 (omega arith)) in
    let z : b ≡ 0 → ⊥ = eqb-false b 0 n.0 in
    let l : a + b < 2 ^ 64 = leb-false (2 ^ 64) (a + b) n.1 in
    let p : 0 < a + b = omega (arith, z) in
    (below a b l, below' a b l, p, told_valid numbers (omega arith) (λ k m. rest k (f (k + 1) (omega (arith, m)))))
  where
    below : (a b : ℕ) → a + b < 2 ^ 64 → a < 2 ^ 64
    below a b h = omega arith

    below' : (a b : ℕ) → a + b < 2 ^ 64 → b < 2 ^ 64
    below' a b h = omega arith

    rest : (k : ℕ) → invalid (get_or (a ∷ b ∷ numbers) (2 * (k + 1)) 0) (get_or (a ∷ b ∷ numbers) (2 * (k + 1) + 1) 0) ≡ false → invalid (get_or numbers (2 * k) 0) (get_or numbers (2 * k + 1) 0) ≡ false
    rest k h =
        let i : 2 * (k + 1) ≡ suc (suc (2 * k)) = omega arith in
        let j : 2 * (k + 1) + 1 ≡ suc (suc (2 * k + 1)) = omega arith in
        sym (ap (λ (n : ℕ). invalid (get_or (a ∷ b ∷ numbers) n 0) (get_or numbers (2 * k + 1) 0)) i) ∙ sym (ap (λ (n : ℕ). invalid (get_or (a ∷ b ∷ numbers) (2 * (k + 1)) 0) (get_or (a ∷ b ∷ numbers) n 0)) j) ∙ h

pub reservable-opened : (numbers : List ℕ) → length numbers % 2 ≡ 0 → some_invalid numbers ≡ false → AllReservable (reservations_of numbers)
unfolding some_invalid
reservable-opened numbers h f = told_valid numbers h (λ k l. go k l (invalid (start numbers k) (size numbers k)) refl)
  where
    go : (k : ℕ) → k < count numbers → (b : Bool) → invalid (start numbers k) (size numbers k) ≡ b → b ≡ false
    go k l true e = sym (some_at (λ (j : ℕ). invalid (start numbers j) (size numbers j)) (count numbers) k l e) ∙ f
    go k l false e = refl

-- ---- the blob

-- a header written over as many zeros
splice_front : (n : ℕ) (header rest : List ℕ) → length header ≡ n → splice 0 header (zeros n ++ rest) ≡ header ++ rest
unfolding splice over
splice_front n header rest h = ap (λ (l : List ℕ). header ++ l) (drop_at (zeros n) rest (length header) (length-zeros n ∙ sym h))

same-header : {a a' b b' c c' d d' : ℕ} → a ≡ a' → b ≡ b' → c ≡ c' → d ≡ d' → header_bytes a b c d ≡ header_bytes a' b' c' d'
same-header p q r t = λ i. header_bytes (p i) (q i) (r i) (t i)

module _ {numbers : List ℕ} {es : List Event} {boot : ℕ} {marks : List ℕ} {s : Desk} (o : Open numbers es boot marks s) (e : answer to_finish s ≡ Done) where
  -- the used part of the finished blob
  pub finished_bytes : length numbers % 2 ≡ 0 → take (s.writer.blob_used + (4 + s.writer.strings_used)) (finished_blob s.writer s.blob s.strings) ≡ blob_from (reservations_of numbers) boot es
  unfolding answer finished_blob used_strings blob_from
  finished_bytes even =
      let h = o.holds in
      let f = finish-fits s.writer (length s.blob) s.strings e in
      let used = s.writer.blob_used in
      let count-used = s.writer.strings_used in
      let names = joined (names_of es) in
      let structure = structure_bytes (names_of es) es in
      let final = final_bytes (take count-used s.strings) in
      let n : length final ≡ 4 + count-used = length_final (take count-used s.strings) ∙ ap (λ (k : ℕ). 4 + k) (length-take-le count-used s.strings f.stored) in
      let header = header_bytes s.writer.reservations (used + 4) count-used s.writer.boot_cpuid_phys in
      let m : length header ≡ header_size = length-header s.writer.reservations (used + 4) count-used s.writer.boot_cpuid_phys in
      let room : used + length final ≤ length s.blob = omega (arith, n, f.room, f.within) in
      let l : length (splice used final s.blob) ≡ length s.blob = length-splice used final s.blob room in
      let k : used + (4 + count-used) ≡ used + length final = omega (arith, n) in
      take-splice (used + (4 + count-used)) 0 header (splice used final s.blob) (omega (arith, m, f.started)) (omega (arith, l, f.room, f.within))
      ∙ ap (splice 0 header)
      (ap (λ (j : ℕ). take j (splice used final s.blob)) k
      ∙ (more-filled h.blob final (omega (arith, n, f.room))).part
      ∙ append_assoc (zeros header_size) (reservation_bytes numbers ++ structure) final
      ∙ ap (λ (x : List ℕ). zeros header_size ++ x) (append_assoc (reservation_bytes numbers) structure final))
      ∙ splice_front header_size header (reservation_bytes numbers ++ (structure ++ final)) m
      ∙ ap (λ (x : List ℕ). header ++ (reservation_bytes numbers ++ (structure ++ final_bytes x))) h.strings.part
      ∙ ap (λ (x : List ℕ). header ++ (reservation_bytes x ++ (structure ++ final_bytes names))) (sym (numbers_paired numbers even))
      ∙ ap (λ (x : List ℕ). x ++ (reservation_bytes (numbers_of (reservations_of numbers)) ++ (structure ++ final_bytes names)))
      (same-header (h.reservations ∙ sym (count_paired numbers even)) (omega (arith, h.used, structure-size (names_of es) es, count_paired numbers even)) h.strings.counted h.boot_number)

  -- what is shown
  pub shown-bytes : length numbers % 2 ≡ 0 → shown (after to_finish s).writer (after to_finish s).blob ≡ blob_from (reservations_of numbers) boot es
  unfolding answer finished_record
  shown-bytes even =
      let h = o.holds in
      let f = finish-fits s.writer (length s.blob) s.strings e in
      let l : length (finished_blob s.writer s.blob s.strings) ≡ length s.blob = length_finished s.writer s.blob s.strings e in
      ap (λ (d : Desk). shown d.writer d.blob) (finished_after s e)
      ∙ shown-whole (finished_record s.writer) (finished_blob s.writer s.blob s.strings) refl refl (ap (usable blob_ceiling) l ∙ sym h.blob.opened) f.room
      ∙ finished_bytes even

  -- the nodes of the events
  pub nodes_told : (f : Nodes) × (nodes_of es ≡ some f) × (events f [] ≡ es)
  unfolding answer Accepted
  nodes_told =
      let f = finish-fits s.writer (length s.blob) s.strings e in
      described_by es (subst (Accepted 0 false) (append-nil es) (o.leads [] f.depth))

  -- the format can hold what is described
  pub well_formed : length numbers % 2 ≡ 0 → some_invalid numbers ≡ false → boot < 2 ^ 32 → (f : Nodes) → events f [] ≡ es → WellFormed (record { reservations = reservations_of numbers; boot = boot; nodes = f })
  unfolding answer blob_of
  well_formed even valid small f q =
      let g = finish-fits s.writer (length s.blob) s.strings e in
      let l : length (finished_blob s.writer s.blob s.strings) ≡ length s.blob = length_finished s.writer s.blob s.strings e in
      let n : length (blob_from (reservations_of numbers) boot es) ≡ s.writer.blob_used + (4 + s.writer.strings_used) =
      ap length (sym (finished_bytes even)) ∙ length-take-le (s.writer.blob_used + (4 + s.writer.strings_used)) (finished_blob s.writer s.blob s.strings) (omega (arith, l, g.room, g.within))
      in
      record {
        names = subst AllPlain (sym q) o.plain;
        reservable = reservable-opened numbers even valid;
        boot = small;
        size = subst (λ (l : List Event). length (blob_from (reservations_of numbers) boot l) < 2 ^ 32) (sym q) (omega (arith, n, g.room, g.small));
      }
