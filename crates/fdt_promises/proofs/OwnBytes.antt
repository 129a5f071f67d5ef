-- An accepted call changes only its own bytes and entries, and they are within the usable lengths: each is a splice or one entry set.
use mathlib.Core.Path.{◌≡◌, refl, sym, ap, subst, ◌∙◌}
use mathlib.Core.Bool.{Bool, true, false, true≢false}
use mathlib.Core.List.{List, [], ◌∷◌}
use mathlib.Core.Logic.{◌⊎◌, ⊎_elim, ◌≢◌}
use Prim.Native.Nat.{ℕ, ◌+◌, ◌≤◌, ◌<◌}
use native.Mathlib.Omega.{arith}
use lib.ListN.{length, take, set, length-set}
use lib.Seq.{length-take-le, get_or-set_other}
use Rattle.fdt_bytes.specs.Splice.{splice}
use Rattle.fdt_bytes.proofs.Splice.{length-splice, splice-before, splice_behind}
use Rattle.std.specs.Prelude.{Result, Ok, Err}
use Rattle.fdt_strings.specs.declared.Interned.{Interned}
use Rattle.fdt_strings.specs.declared.StringRoom.{StringRoom}
use Rattle.fdt_strings.specs.declared.Interned.TheVariants as place
use Rattle.fdt_strings.specs.Entries.{entry}
use Rattle.fdt_strings.specs.Interned.{interned}
use Rattle.fdt_strings.proofs.Places.{new-placed}
use Rattle.fdt_header.specs.Header.{header_size, header_bytes}
use Rattle.fdt_header.proofs.HeaderBytes.{length-header}
use Rattle.fdt_format.specs.Tokens.{begin_bytes, end_bytes, final_bytes}
use Rattle.fdt_format.proofs.Tokens.{length-end, length_final}
use Rattle.fdt_values.specs.Value.{Value}
use Rattle.fdt_record.specs.declared.Record.{Record}
use Rattle.fdt_record.specs.Answers.{Done, accepts}
use Rattle.fdt_record.specs.Limits.{blob_ceiling, strings_ceiling, phandles_ceiling, usable}
use Rattle.fdt_record.proofs.Answers.{accepts-done}
use Rattle.fdt_record.proofs.Fits.{FitStrings}
use Rattle.fdt_opening.specs.Opening.{opening_bytes}
use Rattle.fdt_opening.proofs.Opening.{opened-fits, length-opening_bytes}
use Rattle.fdt_nodes.proofs.Begin.{begin-fits}
use Rattle.fdt_nodes.proofs.End.{end_fits}
use Rattle.fdt_properties.specs.Property.{place_of, added, stored, written}
use Rattle.fdt_properties.proofs.Property.{property-fits}
use Rattle.fdt_phandles.specs.Phandle.{phandle_name, phandle_value, recorded}
use Rattle.fdt_phandles.proofs.Phandles.{record_fits}
use Rattle.fdt_finish.specs.Finish.{used_strings, finished_blob}
use Rattle.fdt_finish.proofs.Finishing.{finish-fits}
use Rattle.fdt_calls.specs.Calls.{Request, to_open, to_boot, to_begin, to_end, to_have, to_mark, to_finish, to_show, Desk, answer, after, mark_answer, marked}
use Rattle.fdt_calls.proofs.Refused.{marked-answer, marked-after, refused_mark}
use Rattle.fdt_promises.specs.Effects.{◌for◌, Outside, Within, OnlyIn, own, own_entry, own_property, Changed}
use Rattle.fdt_promises.proofs.Desks.{opened_after, begun-after, ended-after, had_after, finished_after}

-- ---- one buffer

-- nothing is changed
unchanged : (ceiling : ℕ) (xs : List ℕ) → OnlyIn ceiling [] xs xs
unfolding Within
unchanged ceiling xs = record { kept_length = refl; kept = λ i o. refl; within = tt }

-- a splice
spliced : (ceiling at n : ℕ) (bs xs : List ℕ) → length bs ≡ n → at + n ≤ usable ceiling (length xs) → OnlyIn ceiling ((at for n) ∷ []) xs (splice at bs xs)
unfolding Outside Within usable
spliced ceiling at n bs xs e h =
    let l : at + length bs ≤ length xs = omega (arith, e) in
    record {
      kept_length = length-splice at bs xs l;
      kept = λ i o. ⊎_elim (splice-before at i bs xs l) (λ k. splice_behind at i bs xs l (omega (arith, e, k))) o.0;
      within = (h, tt);
    }

-- one entry set
entry_set : (ceiling at v : ℕ) (xs : List ℕ) → at + 1 ≤ usable ceiling (length xs) → OnlyIn ceiling ((at for 1) ∷ []) xs (set xs at v)
unfolding Outside Within
entry_set ceiling at v xs h =
    let other : (i : ℕ) → (i < at) ⊎ (at + 1 ≤ i) → i ≢ at = λ i o q. ⊎_elim (λ l. omega (arith, l, q)) (λ l. omega (arith, l, q)) o in
    record { kept_length = length-set xs at v; kept = λ i o. get_or-set_other xs at i v 0 (other i o.0); within = (h, tt) }

-- one change after another
changed_twice : {ceiling at n to m : ℕ} {xs ys zs : List ℕ} → OnlyIn ceiling ((at for n) ∷ []) xs ys → OnlyIn ceiling ((to for m) ∷ []) ys zs → OnlyIn ceiling ((to for m) ∷ (at for n) ∷ []) xs zs
unfolding Outside Within
changed_twice {ceiling} {to = to} {m = m} f g = record {
  kept_length = g.kept_length ∙ f.kept_length;
  kept = λ i o. g.kept i (o.0, tt) ∙ f.kept i o.1;
  within = (subst (λ (k : ℕ). to + m ≤ usable ceiling k) f.kept_length g.within.0, f.within);
}

-- a name stored at its place
name_stored : (w : Record) (strings name : List ℕ) → FitStrings w strings → OnlyIn strings_ceiling ((w.strings_used for added (place_of w strings name) name) ∷ []) strings (stored (place_of w strings name) name strings)
unfolding place_of added stored Outside Within
name_stored w strings name f = go (interned (take w.strings_used strings) w.strings_room name) refl
  where
    go : (p : Result Interned StringRoom) → interned (take w.strings_used strings) w.strings_room name ≡ p → OnlyIn strings_ceiling ((w.strings_used for added p name) ∷ []) strings (stored p name strings)
    go (Ok (place.Known offset)) e = record { kept_length = refl; kept = λ i o. refl; within = (omega (arith, f.used, f.room), tt) }
    go (Ok (place.New offset)) e =
        let s = new-placed (take w.strings_used strings) name w.strings_room offset e in
        let n = length-take-le w.strings_used strings (omega (arith, f.used, f.within)) in
        let at : offset ≡ w.strings_used = sym s.place ∙ n in
        subst (λ (k : ℕ). OnlyIn strings_ceiling ((k for length (entry name)) ∷ []) strings (splice offset (entry name) strings)) at
        (spliced strings_ceiling offset (length (entry name)) (entry name) strings refl (omega (arith, s.fits, f.room)))
    go (Err full) e = record { kept_length = refl; kept = λ i o. refl; within = (omega (arith, f.used, f.room), tt) }

-- ---- each call

module _ (s : Desk) where
  property-own : (name : List ℕ) (v : Value) → answer (to_have name v) s ≡ Done → Changed (own_property s name v []) s (after (to_have name v) s)
  unfolding answer
  property-own name v e =
      let f = property-fits s.writer s.blob s.strings name v e in
      subst (Changed (own_property s name v []) s) (sym (had_after s name v e)) (record {
        blob = spliced blob_ceiling s.writer.blob_used (length (written s.writer s.strings name v)) (written s.writer s.strings name v) s.blob refl (omega (arith, f.room, f.blob_fits.room));
        strings = name_stored s.writer s.strings name f.names;
        phandles = unchanged phandles_ceiling s.phandles;
      })

module _ (s : Desk) where
  -- recording changes one entry, also where the call is then refused
  pub recorded-own : (value : ℕ) → mark_answer value s ≡ Done → Changed (record { blob = []; strings = []; phandles = own_entry s }) s (marked s value)
  recorded-own value d =
      let f = record_fits s.writer (length s.blob) s.strings s.phandles value d in
      record {
        blob = unchanged blob_ceiling s.blob;
        strings = unchanged strings_ceiling s.strings;
        phandles = entry_set phandles_ceiling s.writer.phandles_used value s.phandles (omega (arith, f.room, f.phandles.room));
      }

  -- the property's parts on the desk where the value is recorded, and the recorded entry
  phandle-own : (value : ℕ) → answer (to_mark value) s ≡ Done → Changed (own (to_mark value) s) s (after (to_mark value) s)
  unfolding own recorded written place_of accepts
  phandle-own value e = go (accepts (mark_answer value s)) refl
    where
      go : (b : Bool) → accepts (mark_answer value s) ≡ b → Changed (own (to_mark value) s) s (after (to_mark value) s)
      go true t =
          let d = accepts-done (mark_answer value s) t in
          let had : answer (to_have phandle_name (phandle_value value)) (marked s value) ≡ Done = sym (marked-answer s value d) ∙ e in
          let p = property-own (marked s value) phandle_name (phandle_value value) had in
          let q = ap (λ (t : Desk). t.phandles) (had_after (marked s value) phandle_name (phandle_value value) had) in
          subst (Changed (own (to_mark value) s) s) (sym (marked-after s value d)) (record {
            blob = p.blob;
            strings = p.strings;
            phandles = subst (OnlyIn phandles_ceiling (own_entry s) s.phandles) (sym q) (recorded-own value d).phandles;
          })
      go false t = absurd (true≢false (ap accepts (sym e) ∙ refused_mark s value t))

  -- word 9 and the strings from the used length on, and then the header
  finish-own : answer to_finish s ≡ Done → OnlyIn blob_ceiling ((0 for header_size) ∷ (s.writer.blob_used for (4 + s.writer.strings_used)) ∷ []) s.blob (finished_blob s.writer s.blob s.strings)
  unfolding answer finished_blob used_strings usable
  finish-own e =
      let w = s.writer in
      let f = finish-fits w (length s.blob) s.strings e in
      let final = final_bytes (take w.strings_used s.strings) in
      let n : length final ≡ 4 + w.strings_used = length_final (take w.strings_used s.strings) ∙ ap (λ (k : ℕ). 4 + k) (length-take-le w.strings_used s.strings f.stored) in
      let header = header_bytes w.reservations (w.blob_used + 4) w.strings_used w.boot_cpuid_phys in
      let one = spliced blob_ceiling w.blob_used (4 + w.strings_used) final s.blob n (omega (arith, f.room, f.within, f.small)) in
      changed_twice one
      (spliced blob_ceiling 0 header_size header (splice w.blob_used final s.blob) (length-header w.reservations (w.blob_used + 4) w.strings_used w.boot_cpuid_phys)
      (omega (arith, one.kept_length, f.started, f.room, f.within, f.small)))

pub only-own : (c : Request) (s : Desk) → answer c s ≡ Done → Changed (own c s) s (after c s)
unfolding own answer after
only-own (to_open numbers) s e =
    let f = opened-fits (length s.blob) _ _ numbers e in
    subst (Changed (own (to_open numbers) s) s) (sym (opened_after s numbers e)) (record {
      blob = spliced blob_ceiling 0 (length (opening_bytes numbers)) (opening_bytes numbers) s.blob refl (omega (arith, f.even, f.started, length-opening_bytes numbers));
      strings = unchanged strings_ceiling s.strings;
      phandles = unchanged phandles_ceiling s.phandles;
    })
only-own (to_boot n) s e = record {
  blob = unchanged blob_ceiling s.blob;
  strings = unchanged strings_ceiling s.strings;
  phandles = unchanged phandles_ceiling s.phandles;
}
only-own (to_begin name) s e =
    let f = begin-fits s.writer (length s.blob) name e in
    subst (Changed (own (to_begin name) s) s) (sym (begun-after s name e)) (record {
      blob = spliced blob_ceiling s.writer.blob_used (length (begin_bytes name)) (begin_bytes name) s.blob refl (omega (arith, f.room, f.blob.room));
      strings = unchanged strings_ceiling s.strings;
      phandles = unchanged phandles_ceiling s.phandles;
    })
only-own (to_end handle) s e =
    let f = end_fits s.writer (length s.blob) handle e in
    subst (Changed (own (to_end handle) s) s) (sym (ended-after s handle e)) (record {
      blob = spliced blob_ceiling s.writer.blob_used (length end_bytes) end_bytes s.blob refl (omega (arith, f.room, f.blob.room, length-end));
      strings = unchanged strings_ceiling s.strings;
      phandles = unchanged phandles_ceiling s.phandles;
    })
only-own (to_have name v) s e = property-own s name v e
only-own (to_mark value) s e = phandle-own s value e
only-own to_finish s e =
    subst (Changed (own to_finish s) s) (sym (finished_after s e)) (record {
      blob = finish-own s e;
      strings = unchanged strings_ceiling s.strings;
      phandles = unchanged phandles_ceiling s.phandles;
    })
only-own to_show s e = record {
  blob = unchanged blob_ceiling s.blob;
  strings = unchanged strings_ceiling s.strings;
  phandles = unchanged phandles_ceiling s.phandles;
}
