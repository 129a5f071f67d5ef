-- Row 20 in an open run: the open node's properties are where the record says that they start, so the look back finds exactly their names.
use mathlib.Core.Path.{◌≡◌, refl, sym, ap, subst, ◌∙◌}
use mathlib.Core.Bool.{Bool, true, false, cond, true≢false}
use mathlib.Core.List.Memᴰ
use mathlib.Core.List.{List, [], ◌∷◌, ◌++◌, append_assoc, Memᴰ}
use mathlib.Core.Logic.{◌↔◌}
use Prim.Native.Nat.{ℕ, ◌+◌}
use native.Mathlib.Omega.{arith}
use lib.Dec.{leb}
use lib.ListN.{length, take, drop, length-append, take-append-drop}
use Rattle.fdt_bytes.specs.Padding.{zeros}
use Rattle.std.specs.Prelude.{Option, Some, None, Ok, Err}
use Rattle.fdt_strings.specs.declared.Interned.TheVariants as place
use Rattle.fdt_strings.specs.Entries.{found_values, entry, find_string}
use Rattle.fdt_strings.specs.Interned.{string_room, new_name, or_else, interned, values_of}
use Rattle.fdt_strings.proofs.Entries.{PlainNames, no_entry}
use Rattle.fdt_format.specs.Blob.{names_from, names_of, found_at, offset_of, structure_bytes, events_size, AllPlain}
use Rattle.fdt_format.specs.Description.{Property, ◌≔◌}
use Rattle.fdt_format.specs.Distinct.{property_names}
use Rattle.fdt_format.specs.Events.{Event, property_events}
use Rattle.fdt_format.specs.LookBack.{look_back}
use Rattle.fdt_format.proofs.Blanked.{has_out}
use Rattle.fdt_format.proofs.LookBack.{look_properties}
use Rattle.fdt_format.proofs.Strings.{Has, AllHas, names_have, names-plain}
use Rattle.fdt_format.proofs.Structure.{structure-size, structure-append}
use Rattle.fdt_format.proofs.Words.{BytesAt, bytes-right}
use Rattle.fdt_header.specs.Header.{header_size, reservation_bytes}
use Rattle.fdt_record.specs.Limits.{blob_ceiling, strings_ceiling}
use Rattle.fdt_record.proofs.Fits.{usable-within}
use Rattle.fdt_properties.specs.Property.{place_of, is_known, place_offset, is_repeated}
use Rattle.fdt_calls.specs.Calls.{Desk}
use Rattle.fdt_promises.specs.OpenNode.{open_in, open_names}
use Rattle.fdt_promises.specs.Run.{Holds}
use Rattle.fdt_promises.proofs.Growth.{among}
use Rattle.fdt_promises.proofs.OpenNode.{since-last, unended_since}

-- a property's name is found among the names
mem_has : (names : List (List ℕ)) (name : List ℕ) (ps : List Property) → AllHas names (property_events ps []) → Memᴰ name (property_names ps) → Has names name
unfolding AllHas property_events property_names
mem_has names name [] a m = absurd (Memᴰ.not-nil m)
mem_has names name ((n ≔ v) ∷ ps) a (Memᴰ.head q) = subst (Has names) (sym q) a.0
mem_has names name ((n ≔ v) ∷ ps) a (Memᴰ.tail m) = mem_has names name ps a.1 m

-- a new name is not stored
new_unknown : (used : List ℕ) (room : ℕ) (name : List ℕ) → is_known (new_name used room name) ≡ false
unfolding new_name is_known
new_unknown used room name = go (leb (length used + length (entry name)) room)
  where
    go : (b : Bool) → is_known (cond b (Ok (place.New (length used))) (Err string_room)) ≡ false
    go true = refl
    go false = refl

module _ {numbers : List ℕ} {es : List Event} {boot : ℕ} {marks : List ℕ} {s : Desk} (h : Holds numbers es boot marks s) (plain : AllPlain es) (unended : s.writer.node_ended ≡ false) where
  own : List Property
  own = (open_in es).own

  -- the run's events end with the open node's properties
  split : (front : List Event) × (es ≡ front ++ property_events own [])
  unfolding own
  split = let r = since-last es in (r.0, r.1 ∙ ap (λ (l : List Event). r.0 ++ l) (unended_since es (sym h.ended ∙ unended)))

  own-size : s.writer.node_start + events_size (property_events own []) ≡ s.writer.blob_used
  unfolding own
  own-size = ap (λ (l : List Event). s.writer.node_start + events_size l) (sym (unended_since es (sym h.ended ∙ unended))) ∙ h.start

  -- they are where the record says that they start
  own_at : BytesAt s.blob s.writer.node_start (structure_bytes (names_of es) (property_events own []))
  own_at =
      let used = s.writer.blob_used in
      let last = structure_bytes (names_of es) (property_events own []) in
      let before = zeros header_size ++ (reservation_bytes numbers ++ structure_bytes (names_of es) split.0) in
      let c : structure_bytes (names_of es) es ≡ structure_bytes (names_of es) split.0 ++ last =
      ap (structure_bytes (names_of es)) split.1 ∙ structure-append (names_of es) split.0 (property_events own []) in
      let e : take used s.blob ≡ before ++ last =
      h.blob.part ∙ ap (λ (l : List ℕ). zeros header_size ++ (reservation_bytes numbers ++ l)) c ∙ simp append_assoc in
      let counted : used ≡ length before + length last = h.blob.counted ∙ ap length (sym h.blob.part ∙ e) ∙ length-append before last in
      bytes-right before last
      (record { before = []; behind = drop used s.blob; split = sym (take-append-drop used s.blob) ∙ ap (λ (l : List ℕ). l ++ drop used s.blob) e; place = refl })
      s.writer.node_start (omega (arith, counted, own-size, structure-size (names_of es) (property_events own [])))

  own-has : AllHas (names_of es) (property_events own [])
  unfolding names_of
  own-has = has_out (names_from [] es) [] split.0 (property_events own []) (subst (AllHas (names_from [] es)) split.1 (names_have [] es))

  names_are_plain : PlainNames (names_of es)
  unfolding names_of
  names_are_plain = names-plain es plain no_entry

  -- the look back for a name that the strings have
  looked : (name : List ℕ) → Has (names_of es) name → (look_back s.blob s.writer.blob_used (offset_of (names_of es) name) s.writer.node_start ≡ true) ↔ Memᴰ name (property_names own)
  looked name known =
      let u = (usable-within blob_ceiling (length s.blob)).1 in
      let v = (usable-within strings_ceiling (length s.strings)).1 in
      look_properties s.blob names_are_plain (omega (arith, v, h.strings.counted, h.strings.opened, h.strings.within)) (omega (arith, u, h.blob.opened, h.blob.within)) name known own s.writer.node_start own_at own-size own-has

  -- row 20 holds exactly when the open node has a property of the name
  pub repeated_exactly : (name : List ℕ) → (is_repeated s.writer s.blob (place_of s.writer s.strings name) ≡ true) ↔ Memᴰ name (open_names es)
  unfolding own is_repeated is_known place_of place_offset values_of interned or_else new_name offset_of found_at found_values Has
  repeated_exactly name = go (find_string (take s.writer.strings_used s.strings) name) refl
    where
      repeated : Option ℕ → Bool
      repeated f = let p = or_else f (new_name (take s.writer.strings_used s.strings) s.writer.strings_room name) in is_repeated s.writer s.blob p

      go : (f : Option ℕ) → find_string (take s.writer.strings_used s.strings) name ≡ f → (repeated f ≡ true) ↔ Memᴰ name (open_names es)
      go (Some i) e =
          let k = among name names_are_plain h.strings (Some i) e in
          subst (λ (n : ℕ). (look_back s.blob s.writer.blob_used n s.writer.node_start ≡ true) ↔ Memᴰ name (open_names es)) (ap found_at k) (looked name (i, k))
      go None e = (
        λ t. absurd (true≢false (sym t ∙ rw (new_unknown (take s.writer.strings_used s.strings) s.writer.strings_room name))),
        λ m. let k = mem_has (names_of es) name own own-has m in let z = k.1 in let q = among name names_are_plain h.strings None e in let n : ◌≡◌ {A = ℕ} 0 1 = cc in absurd (omega arith),
      )
