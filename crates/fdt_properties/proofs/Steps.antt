-- The tests of a property in steps: of the record, of the value, of the open node and the name, of the name's place, and the room.
-- What is said of the answer holds for every value of which its own tests find the same.
use mathlib.Core.Path.{◌≡◌, refl, sym, ap, ◌∙◌}
use mathlib.Core.Bool.{Bool, true, false, cond}
use mathlib.Core.List.{List, [], ◌∷◌, ◌++◌}
use Prim.Native.Nat.{ℕ, ◌+◌, ◌≤◌}
use native.Mathlib.Omega.{arith}
use lib.Dec.{eqb}
use lib.ListN.{length}
use Rattle.std.specs.Prelude.{Result, Ok, Err}
use Rattle.std.specs.Result.{IsErr, IsErrAnd}
use Rattle.fdt_bytes.specs.Padding.{round_up}
use Rattle.fdt_format.proofs.Tokens.{length-property}
use Rattle.fdt_strings.specs.declared.Interned.{Interned}
use Rattle.fdt_values.specs.Value.{Value, value_bytes, misfit_value, zero_value}
use Rattle.fdt_record.specs.declared.Error.{Error}
use Rattle.fdt_record.specs.declared.Error.TheVariants.{Misfit, PropertyAfterEndNode, PropertyBeforeBeginNode, InvalidString, BlobRoom}
use Rattle.fdt_record.specs.declared.Record.{Record}
use Rattle.fdt_record.specs.Answers.{Done}
use Rattle.fdt_record.specs.Fields.{with_used_blob, with_used_strings}
use Rattle.fdt_record.specs.Misfits.{overfull}
use Rattle.fdt_record.specs.Rows.{Row, ◌⇒◌, first}
use Rattle.fdt_record.specs.Tests.{alone_rows, blob_rows, strings_rows}
use Rattle.fdt_record.proofs.Fits.{not_overfull}
use Rattle.fdt_record.proofs.FirstTests.{StringsPassed, strings-passed}
use Rattle.fdt_record.proofs.Rows.{skip, hit, done, stands, goes_on}
use Rattle.fdt_properties.specs.Placeholder.{measure, tested_place, Passed}
use Rattle.fdt_properties.specs.Property.{place_of, place_offset, is_repeated, added, written, property_record, state_rows, name_rows, place_rows, property_rows, property_answer}
use Rattle.fdt_properties.proofs.Places.{place_passed, place_refused, settled}

-- what the exit of a `?` returns
pub exits : {T : Type 0} {e : Error} (r : Result T Error) → IsErr r × IsErrAnd r (λ y. y ≡ e) → r ≡ Err e
exits (Ok x) h = absurd h.1
exits (Err y) h = ap Err h.1

-- what the passed tests of a value show
pub record Measured (v : Value) (len : ℕ) : Type 0 where
  pub in_order : misfit_value v ≡ false
  pub plain : zero_value v ≡ false
  pub len_is : len ≡ length (value_bytes v)

pub measured : (v : Value) {len : ℕ} → measure v ≡ Ok len → Measured v len
unfolding measure
measured v {len} e = go (misfit_value v) (zero_value v) refl refl e
  where
    go : (a b : Bool) → misfit_value v ≡ a → zero_value v ≡ b → ◌≡◌ {A = Result ℕ Error} (cond a (Err Misfit) (cond b (Err InvalidString) (Ok (length (value_bytes v))))) (Ok len) → Measured v len
    go true b p q e = cc
    go false true p q e = cc
    go false false p q e = record { in_order = p; plain = q; len_is = cc }

-- the record after a property, by the length of its value and the bytes that its name adds to the strings
abbrev grown : Record → ℕ → ℕ → Record
grown w len more = with_used_strings (w.strings_used + more) (with_used_blob (w.blob_used + (12 + round_up 4 len)) w)

-- the tests of the open node and of the name
abbrev named_rows : Record → List ℕ → List Row
named_rows w name = (w.node_ended ⇒ PropertyAfterEndNode) ∷ (eqb w.node_depth 0 ⇒ PropertyBeforeBeginNode) ∷ name_rows name

module _ (w : Record) (blob strings name : List ℕ) where
  -- refused by the tests of the record
  pub refused-record : {e : Error} → first (strings_rows w (length blob) strings) ≡ Err e → (v : Value) → property_answer w blob strings name v ≡ Err e
  unfolding property_answer property_rows state_rows strings_rows blob_rows alone_rows
  refused-record told v = stands (strings_rows w (length blob) strings) _ told

  -- those are passed
  module _ (told : first (strings_rows w (length blob) strings) ≡ Done) where
    pub record_fits : StringsPassed w (length blob) strings
    record_fits = strings-passed w (length blob) strings told

    -- what follows answers
    on : (v : Value) → property_answer w blob strings name v ≡ first ((misfit_value v ⇒ Misfit) ∷ (zero_value v ⇒ InvalidString) ∷ (named_rows w name ++ place_rows w blob strings name v))
    unfolding property_answer property_rows state_rows strings_rows blob_rows alone_rows name_rows
    on v = goes_on (strings_rows w (length blob) strings) _ told

    -- refused by the tests of the value
    pub refused-value : {e : Error} → (v : Value) → measure v ≡ Err e → property_answer w blob strings name v ≡ Err e
    unfolding measure first
    refused-value {e} v h = on v ∙ go (misfit_value v) (zero_value v) h
      where
        go : (a b : Bool) → ◌≡◌ {A = Result ℕ Error} (cond a (Err Misfit) (cond b (Err InvalidString) (Ok (length (value_bytes v))))) (Err e) → first ((a ⇒ Misfit) ∷ (b ⇒ InvalidString) ∷ (named_rows w name ++ place_rows w blob strings name v)) ≡ Err e
        go true b h = cc
        go false true h = cc
        go false false h = cc

    module _ {place : Interned} (p : tested_place (place_of w strings name) (is_repeated w blob (place_of w strings name)) ≡ Ok place) where
      place_is : place_of w strings name ≡ Ok place
      place_is = (place_passed w blob [] (place_of w strings name) place p).place_is

      pub added_fits : w.strings_used + added (Ok place) name ≤ w.strings_room
      added_fits = rw (← place_is) (settled w strings name record_fits.strings).used

    module _ {len : ℕ} where
      -- the tests of the value are passed too
      on_name : (v : Value) → measure v ≡ Ok len → property_answer w blob strings name v ≡ first (named_rows w name ++ place_rows w blob strings name v)
      on_name v h = let m = measured v h in on v ∙ skip _ _ m.in_order ∙ skip _ _ m.plain

      -- refused by the tests of the open node and the name
      pub refused-name : {e : Error} → first (named_rows w name) ≡ Err e → (v : Value) → measure v ≡ Ok len → property_answer w blob strings name v ≡ Err e
      refused-name r v h = on_name v h ∙ stands (named_rows w name) _ r

      module _ (named : first (named_rows w name) ≡ Done) where
        on_place : (v : Value) → measure v ≡ Ok len → property_answer w blob strings name v ≡ first (place_rows w blob strings name v)
        on_place v h = on_name v h ∙ goes_on (named_rows w name) _ named

        -- refused for the name's place
        pub refused-place : {e : Error} → tested_place (place_of w strings name) (is_repeated w blob (place_of w strings name)) ≡ Err e → (v : Value) → measure v ≡ Ok len → property_answer w blob strings name v ≡ Err e
        unfolding place_rows
        refused-place r v h = on_place v h ∙ place_refused w blob _ (place_of w strings name) _ r

        module _ {place : Interned} (p : tested_place (place_of w strings name) (is_repeated w blob (place_of w strings name)) ≡ Ok place) where
          module _ {more : ℕ} (adds : more ≡ added (Ok place) name) {after : Record} (grew : after ≡ grown w len more) where
            after_of : (v : Value) → measure v ≡ Ok len → after ≡ property_record w strings name v
            unfolding property_record written
            after_of v h =
                grew
                ∙ ap (grown w len) (adds ∙ ap (λ p. added p name) (sym (place_is p)))
                ∙ ap (λ (n : ℕ). with_used_strings (w.strings_used + added (place_of w strings name) name) (with_used_blob (w.blob_used + n) w))
                (ap (λ (n : ℕ). 12 + round_up 4 n) (measured v h).len_is ∙ sym (length-property (place_offset (place_of w strings name)) (value_bytes v)))

            room : (v : Value) → measure v ≡ Ok len → property_answer w blob strings name v ≡ first ((overfull after ⇒ BlobRoom) ∷ [])
            unfolding place_rows
            room v h = on_place v h ∙ (place_passed w blob _ (place_of w strings name) place p).first_is ∙ ap (λ (x : Record). first ((overfull x ⇒ BlobRoom) ∷ [])) (sym (after_of v h))

            -- refused for the room
            pub refused-room : overfull after ≡ true → (v : Value) → measure v ≡ Ok len → property_answer w blob strings name v ≡ Err BlobRoom
            refused-room over v h = room v h ∙ hit _ _ over

            -- accepted
            pub tests-passed : {value : Result ℕ Error} → value ≡ Ok len → overfull after ≡ false → Passed w blob strings name value (record { place = place; len = len; after = after })
            unfolding round_up
            tests-passed q fits =
                let f = record_fits in
                let s = settled w strings name f.strings in
                let used = ap (λ (x : Record). x.blob_used) grew in
                let within : after.blob_used ≤ w.blob_room =
                omega (arith, not_overfull after fits, ap (λ (x : Record). x.blob_room) grew)
                in
                record {
                  len_is = q;
                  place_is = place_is p;
                  name_fits = rw (← place_is p) s.fits;
                  frame_fits =
                      record {
                        ends = used;
                        within = omega (arith, within, f.blob.within);
                        small = omega (arith, used, within, f.blob.small);
                        near = rw (← place_is p) (omega (arith, s.offset));
                      };
                  accepted = λ v h. let m = sym h ∙ q in record { answered = room v m ∙ skip _ _ fits ∙ done; after_is = after_of v m };
                }
