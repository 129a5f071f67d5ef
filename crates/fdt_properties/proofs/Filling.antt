-- A property in two steps: a placeholder that is filled with the value's bytes is the property's bytes, spliced in.
use mathlib.Core.Path.{◌≡◌, refl, sym, ap, ◌∙◌}
use mathlib.Core.List.{List, [], ◌∷◌, ◌++◌}
use Prim.Native.Nat.{ℕ, ◌+◌, ◌-◌, ◌≤◌}
use native.Mathlib.Omega.{arith}
use Rattle.std.specs.Prelude.{Result, Ok, Err}
use lib.ListN.{length}
use Rattle.fdt_bytes.specs.BigEndian.{cell_bytes}
use Rattle.fdt_bytes.specs.Padding.{padding, round_up, zeros, padded}
use Rattle.fdt_bytes.specs.Splice.{splice}
use Rattle.fdt_bytes.proofs.BigEndian.{length-cells}
use Rattle.fdt_bytes.proofs.Padding.{length-zeros}
use Rattle.fdt_bytes.proofs.Splice.{length-splice, splice-splice, splice_under}
use Rattle.fdt_format.specs.Tokens.{property_token, property_bytes}
use Rattle.fdt_values.specs.Value.{Value, value_bytes}
use Rattle.fdt_record.specs.declared.Error.{Error}
use Rattle.fdt_record.specs.declared.Record.{Record}
use Rattle.fdt_record.specs.Answers.{Done}
use Rattle.fdt_record.proofs.Answers.{upon-done, upon-err}
use Rattle.fdt_properties.specs.declared.Tested.{Tested}
use Rattle.fdt_properties.specs.Placeholder.{measure, FrameFits, framed, Passed, Unfilled}
use Rattle.fdt_properties.specs.Property.{place_offset, stored, written, property_record, property_answer, property, property_blob, property_strings, PropertyOutcome}
use Rattle.fdt_properties.proofs.Steps.{measured}

module _ (used offset len end : ℕ) (value blob : List ℕ) (sized : len ≡ length value) (f : FrameFits used offset len end (length blob)) where
  words : List ℕ
  words = cell_bytes 4 (property_token ∷ len ∷ offset ∷ [])

  twelve : length words ≡ 12
  unfolding words
  twelve = length-cells 4 (property_token ∷ len ∷ offset ∷ [])

  worded : length (splice used words blob) ≡ length blob
  unfolding round_up
  worded = length-splice used words blob (omega (arith, twelve, f.ends, f.within))

  length-framed : length (framed used offset len end blob) ≡ length blob
  unfolding framed round_up words
  length-framed =
      length-splice (used + 12 + len) (zeros (end - (used + 12 + len))) (splice used words blob) (omega (arith, length-zeros (end - (used + 12 + len)), worded, f.ends, f.within))
      ∙ worded

  pub value_fits : used + 12 + length value ≤ length (framed used offset len end blob)
  unfolding round_up
  value_fits = omega (arith, length-framed, f.ends, f.within)

  pub filling : splice (used + 12) value (framed used offset len end blob) ≡ splice used (property_bytes offset value) blob
  unfolding framed property_bytes padded round_up words
  filling =
      let behind = used + 12 + len in
      let pad : end - behind ≡ padding 4 len = omega (arith, f.ends) in
      splice_under (used + 12) behind value (zeros (end - behind)) (splice used words blob) (omega arith) (omega (arith, worded, f.ends, f.within))
      ∙ splice-splice used (used + 12) words (value ++ zeros (end - behind)) blob (omega (arith, twelve)) (omega (arith, f.ends, f.within))
      ∙ ap (λ (n : ℕ). splice used (words ++ (value ++ zeros n)) blob) pad
      ∙ ap (λ (n : ℕ). splice used (cell_bytes 4 (property_token ∷ n ∷ offset ∷ []) ++ (value ++ zeros (padding 4 n))) blob) sized

module _ {w : Record} {blob strings name : List ℕ} {v : Value} where
  -- refused: nothing is altered
  pub nothing_placed : (e : Error) → property_answer w blob strings name v ≡ Err e → PropertyOutcome w blob strings name v (record { answer = Err e; after = w }) blob strings
  unfolding property property_blob property_strings
  nothing_placed e told = record {
    result = rw told (ap (λ (x : Record). record { answer = Err e; after = x }) (sym (upon-err (property_record w strings name v) w refl)));
    bytes = sym (upon-err _ _ told);
    names = sym (upon-err _ _ told);
  }

  -- accepted: only the value is left to be written
  pub placed : {value : Result ℕ Error} {r : Tested} → Passed w blob strings name value r → value ≡ measure v → {s b : List ℕ} → s ≡ stored (Ok r.place) name strings → b ≡ framed w.blob_used (place_offset (Ok r.place)) r.len r.after.blob_used blob → Unfilled w blob strings name v (record { at = w.blob_used + 12; after = r.after }) b s
  unfolding property property_blob property_strings written
  placed {r = r} q k {s} {b} es eb =
      let used = w.blob_used in
      let offset = place_offset (Ok r.place) in
      let t = q.accepted v k in
      let m = measured v (sym k ∙ q.len_is) in
      record {
        in_order = m.in_order;
        fits = rw eb (value_fits used offset r.len r.after.blob_used (value_bytes v) blob m.len_is q.frame_fits);
        filled =
            record {
              result = rw t.answered (ap (λ (x : Record). record { answer = Done; after = x }) (t.after_is ∙ sym (upon-done Done (property_record w strings name v) w refl)));
              bytes =
                  ap (splice (used + 12) (value_bytes v)) eb
                  ∙ filling used offset r.len r.after.blob_used (value_bytes v) blob m.len_is q.frame_fits
                  ∙ ap (λ p. splice used (property_bytes (place_offset p) (value_bytes v)) blob) (sym q.place_is)
                  ∙ sym (upon-done _ _ _ t.answered);
              names = es ∙ ap (λ p. stored p name strings) (sym q.place_is) ∙ sym (upon-done _ _ _ t.answered);
            };
      }
