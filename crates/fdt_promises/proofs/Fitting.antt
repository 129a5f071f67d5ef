-- While a run is open, its record fits its buffers, so 17 is answered only for a call's own arguments.
use mathlib.Core.Path.{◌≡◌, refl, sym, ap, subst, ◌∙◌}
use mathlib.Core.Bool.{Bool, true, false, not, ◌&&◌, true≢false}
use mathlib.Core.List.{List, [], ◌∷◌}
use mathlib.Core.Logic.{◌↔◌, ◌⊎◌, inl, inr}
use Prim.Native.Nat.{ℕ, zero, suc, ◌+◌, ◌-◌, ◌%◌, ◌≤◌}
use native.Mathlib.Omega.{arith}
use borrow.Author.Tests.{eq-eqb, ne_eqb, le-ltb}
use lib.Dec.{eqb}
use lib.ListN.{length, get_or}
use lib.Seq.{get_or-take}
use Rattle.fdt_strings.specs.Entries.{joined}
use Rattle.fdt_strings.proofs.Entries.{whole-joined, whole-last}
use Rattle.fdt_header.specs.Header.{structure_start}
use Rattle.fdt_values.specs.Value.{Value, raw, cells, texts, sum, misfit_value}
use Rattle.fdt_format.specs.Blob.{names_of, events_size}
use Rattle.fdt_format.specs.Events.{Event}
use Rattle.fdt_format.proofs.TokensRead.{size_multiple}
use Rattle.std.specs.Prelude.{Err}
use Rattle.fdt_record.specs.declared.Error.TheVariants.{Misfit}
use Rattle.fdt_record.specs.declared.Outcome.{Outcome}
use Rattle.fdt_record.specs.Answers.{Answer, number_of, accepts}
use Rattle.fdt_record.specs.Limits.{most_reservations}
use Rattle.fdt_record.specs.Misfits.{misfit_record, misfit_room, off_structure, misfit_blob, misfit_strings, misfit_phandles}
use Rattle.fdt_record.specs.Rows.{Row, ◌⇒◌, first}
use Rattle.fdt_record.specs.Tests.{alone_rows, blob_rows, strings_rows}
use Rattle.fdt_record.proofs.Answers.{accepts-done, upon-refused}
use Rattle.fdt_record.proofs.Rows.{skip, hit}
use Rattle.fdt_opening.specs.Opening.{opening_rows, opening_answer}
use Rattle.fdt_nodes.specs.Begin.{begin_rows, begin_answer}
use Rattle.fdt_nodes.specs.End.{end_rows, end_answer}
use Rattle.fdt_properties.specs.Property.{state_rows, name_rows, place_rows, property_rows, property_answer}
use Rattle.fdt_phandles.specs.Phandle.{phandle_name, phandle_value, record_rows, record_answer, phandle}
use Rattle.fdt_finish.specs.Boot.{boot_answer}
use Rattle.fdt_finish.specs.Finish.{finish_rows, finish_answer}
use Rattle.fdt_calls.specs.Calls.{Call, new, new_with_mem_reserv, set_boot_cpuid_phys, begin_node, end_node, property, property_null, property_string, property_string_list, property_u32, property_u64, property_array_u32, property_array_u64, property_phandle, finish, show, asks, to_open, to_boot, to_begin, to_end, to_have, to_mark, to_finish, Desk, answer, mark_answer}
use Rattle.fdt_calls.proofs.Refused.{marked-answer}
use Rattle.fdt_promises.specs.OpenNode.{since_begin}
use Rattle.fdt_promises.specs.Run.{Filled, FitDesk, Misgiven, odd_count, other_sum}
use Rattle.fdt_promises.proofs.Held.{Open, marked_open}
use Rattle.fdt_promises.proofs.OpenNode.{since-within}

-- ---- the record fits

filled-fits : {ceiling room used : ℕ} {contents buffer : List ℕ} → Filled ceiling contents room used buffer → misfit_room ceiling (length buffer) room used ≡ false
unfolding misfit_room
filled-fits f = simp (eq-eqb _ _ (sym f.opened), le-ltb _ _ f.within)

sizes_multiple : (es : List Event) → events_size es % 4 ≡ 0
unfolding events_size
sizes_multiple [] = refl
sizes_multiple (e ∷ es) = omega (arith, size_multiple e, sizes_multiple es)

module _ {numbers : List ℕ} {es : List Event} {boot : ℕ} {marks : List ℕ} {s : Desk} (o : Open numbers es boot marks s) where
  ends_with_0 : (n : ℕ) → s.writer.strings_used ≡ n → (not (eqb s.writer.strings_used 0) && not (eqb (get_or s.strings (s.writer.strings_used - 1) 0) 0)) ≡ false
  ends_with_0 zero e = simp (eq-eqb _ _ e)
  ends_with_0 (suc n) e =
      let f = o.holds.strings in
      let used = s.writer.strings_used in
      let l : get_or s.strings (used - 1) 0 ≡ 0 =
      sym (get_or-take used s.strings (used - 1) 0 (omega (arith, e)))
      ∙ ap (λ (x : List ℕ). get_or x (used - 1) 0) f.part
      ∙ ap (λ (k : ℕ). get_or (joined (names_of es)) (k - 1) 0) f.counted
      ∙ whole-last (whole-joined (names_of es)) refl (omega (arith, e, f.counted))
      in
      simp (ne_eqb used 0 (λ z. omega (arith, e, z)), eq-eqb _ _ l)

  pub open_fits : FitDesk s
  unfolding misfit_record misfit_blob off_structure misfit_strings misfit_phandles
  open_fits =
      let h = o.holds in
      let w = s.writer in
      let few : w.reservations ≤ most_reservations = omega (arith, h.reservations, o.few) in
      let aligned : w.blob_used % 4 ≡ 0 = omega (arith, h.used, sizes_multiple es) in
      let started : structure_start w.reservations ≤ w.blob_used = omega (arith, h.used, h.reservations) in
      let from : w.node_start % 4 ≡ 0 = omega (arith, aligned, h.start, sizes_multiple (since_begin es)) in
      let inside : structure_start w.reservations ≤ w.node_start = omega (arith, h.start, h.used, h.reservations, since-within es) in
      let up_to : w.node_start ≤ w.blob_used = omega (arith, h.start) in
      record {
        figures = simp (le-ltb _ _ o.shallow, le-ltb _ _ few);
        blob = simp (filled-fits h.blob, eq-eqb _ _ aligned, le-ltb _ _ started, eq-eqb _ _ from, le-ltb _ _ inside, le-ltb _ _ up_to);
        strings = simp (filled-fits h.strings) (ends_with_0 w.strings_used refl);
        phandles = filled-fits h.marks;
      }

-- ---- answers that are not 17

-- the answer is not 17
abbrev Other : Answer → Type 0
Other a = eqb (number_of a) 17 ≡ false

-- each row fails, or its refusal is not 17
unfoldable Others : List Row → Type 0
Others [] = Unit {0}
Others ((b ⇒ a) ∷ rows) = ((b ≡ false) ⊎ Other (Err a)) × Others rows

other : (rows : List Row) → Others rows → Other (first rows)
unfolding Others first
other [] r = refl
other ((true ⇒ a) ∷ rows) (inl f, r) = absurd (true≢false f)
other ((true ⇒ a) ∷ rows) (inr p, r) = p
other ((false ⇒ a) ∷ rows) (p, r) = other rows r

-- an answer that is not 17 is not Misfit
never : {A : Type 0} {a : Answer} → Other a → a ≡ Err Misfit → A
never n e = absurd (true≢false (sym (ap (λ (b : Answer). eqb (number_of b) 17) e) ∙ n))

module _ {numbers : List ℕ} {es : List Event} {boot : ℕ} {marks : List ℕ} {s : Desk} (o : Open numbers es boot marks s) where
  other-opening : (ns : List ℕ) → length ns % 2 ≡ 0 → Other (answer (to_open ns) s)
  unfolding answer opening_answer opening_rows Others
  other-opening ns e = other (opening_rows (length s.blob) (length s.strings) (length s.phandles) ns) (inl (simp (eq-eqb _ _ e)), (inr refl, (inr refl, (inr refl, (inr refl, tt)))))

  other-boot : (n : ℕ) → Other (answer (to_boot n) s)
  unfolding answer boot_answer alone_rows Others
  other-boot n = let f = open_fits o in other (alone_rows s.writer) (inr refl, (inl f.figures, tt))

  other-begin : (name : List ℕ) → Other (answer (to_begin name) s)
  unfolding answer begin_answer begin_rows blob_rows alone_rows Others
  other-begin name = let f = open_fits o in other (begin_rows s.writer (length s.blob) name) (inr refl, (inl f.figures, (inl f.blob, (inr refl, (inr refl, (inr refl, (inr refl, tt)))))))

  other-end : (handle : ℕ) → Other (answer (to_end handle) s)
  unfolding answer end_answer end_rows blob_rows alone_rows Others
  other-end handle = let f = open_fits o in other (end_rows s.writer (length s.blob) handle) (inr refl, (inl f.figures, (inl f.blob, (inr refl, (inr refl, tt)))))

  other-property : (name : List ℕ) (v : Value) → misfit_value v ≡ false → Other (answer (to_have name v) s)
  unfolding answer property_answer property_rows state_rows name_rows place_rows strings_rows blob_rows alone_rows Others
  other-property name v m =
      let f = open_fits o in
      other (property_rows s.writer s.blob s.strings name v)
      (inr refl, (inl f.figures, (inl f.blob, (inl f.strings, (inl m, (inr refl, (inr refl, (inr refl, (inr refl, (inr refl, (inr refl, (inr refl, (inr refl, tt)))))))))))))

  -- a phandle, before its value is recorded
  other_mark : (value : ℕ) → Other (mark_answer value s)
  unfolding record_answer record_rows strings_rows blob_rows alone_rows Others
  other_mark value =
      let f = open_fits o in
      other (record_rows s.writer (length s.blob) s.strings s.phandles value)
      (inr refl, (inl f.figures, (inl f.blob, (inl f.strings, (inl f.phandles, (inr refl, (inr refl, tt)))))))

  other-finish : Other (answer to_finish s)
  unfolding answer finish_answer finish_rows strings_rows blob_rows alone_rows Others
  other-finish = let f = open_fits o in other (finish_rows s.writer (length s.blob) s.strings) (inr refl, (inl f.figures, (inl f.blob, (inl f.strings, (inr refl, (inr refl, tt))))))

-- a phandle: before its value is recorded, and then as a property
other-phandle : {numbers : List ℕ} {es : List Event} {boot : ℕ} {marks : List ℕ} {s : Desk} → Open numbers es boot marks s → (value : ℕ) → Other (answer (to_mark value) s)
unfolding answer phandle phandle_value misfit_value
other-phandle {s = s} o value = go (accepts (mark_answer value s)) refl
  where
    go : (b : Bool) → accepts (mark_answer value s) ≡ b → Other (answer (to_mark value) s)
    go true t =
        let d = accepts-done (mark_answer value s) t in
        subst Other (sym (marked-answer s value d)) (other-property (marked_open o value d) phandle_name (phandle_value value) refl)
    go false t = subst Other (sym (ap (λ (r : Outcome (Unit {0})). r.answer) (upon-refused _ _ _ t))) (other_mark o value)

-- ---- 17 exactly for a call's own arguments

-- one string, of its own length
one-sum : (string : List ℕ) → misfit_value (texts string (length string ∷ [])) ≡ false
unfolding misfit_value sum
one-sum string = simp (eq-eqb _ _ (let z : length string + 0 ≡ length string = omega arith in z))

module _ {numbers : List ℕ} {es : List Event} {boot : ℕ} {marks : List ℕ} {s : Desk} (o : Open numbers es boot marks s) where
  given : (c : Call) → answer (asks c) s ≡ Err Misfit → Misgiven c
  unfolding asks answer misfit_value
  given new e = never (other-opening o [] refl) e
  given (new_with_mem_reserv ns) e = go (length ns % 2) refl
    where
      go : (k : ℕ) → length ns % 2 ≡ k → Misgiven (new_with_mem_reserv ns)
      go zero q = never (other-opening o ns q) e
      go (suc k) q = odd_count ns (omega (arith, q))
  given (set_boot_cpuid_phys n) e = never (other-boot o n) e
  given (begin_node name) e = never (other-begin o name) e
  given (end_node handle) e = never (other-end o handle) e
  given (property name bytes) e = never (other-property o name (raw bytes) refl) e
  given (property_null name) e = never (other-property o name (raw []) refl) e
  given (property_string name string) e = never (other-property o name (texts string (length string ∷ [])) (one-sum string)) e
  given (property_string_list name bytes lengths) e = other_sum name bytes lengths (λ q. never (other-property o name (texts bytes lengths) (simp (eq-eqb _ _ q))) e)
  given (property_u32 name n) e = never (other-property o name (cells 4 (n ∷ [])) refl) e
  given (property_u64 name n) e = never (other-property o name (cells 8 (n ∷ [])) refl) e
  given (property_array_u32 name ns) e = never (other-property o name (cells 4 ns) refl) e
  given (property_array_u64 name ns) e = never (other-property o name (cells 8 ns) refl) e
  given (property_phandle value) e = never (other-phandle o value) e
  given finish e = never (other-finish o) e
  given show e = never refl e

  refused : (c : Call) → Misgiven c → answer (asks c) s ≡ Err Misfit
  unfolding asks answer opening_answer opening_rows property_answer property_rows state_rows strings_rows blob_rows alone_rows misfit_value
  refused c (odd_count ns q) = hit _ _ (simp (ne_eqb (length ns % 2) 0 (λ z. omega (arith, q, z))))
  refused c (other_sum name bytes lengths q) =
      let f = open_fits o in
      skip _ _ o.holds.unfinished ∙ skip _ _ f.figures ∙ skip _ _ f.blob ∙ skip _ _ f.strings ∙ hit _ _ (simp (ne_eqb (sum lengths) (length bytes) q))

  pub only-given : (c : Call) → (answer (asks c) s ≡ Err Misfit) ↔ Misgiven c
  only-given c = (given c, refused c)
