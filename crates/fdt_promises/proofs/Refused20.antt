-- Exactly when 20 is answered in an open run: no other row has this answer, and its row is about the open node's names.
use mathlib.Core.Path.{◌≡◌, refl, sym, ap, ◌∙◌}
use mathlib.Core.Bool.{Bool, true, false, not, true≢false}
use mathlib.Core.List.{List, [], ◌∷◌, Memᴰ}
use mathlib.Core.Logic.{◌↔◌}
use Prim.Native.Nat.{ℕ}
use lib.Dec.{eqb}
use lib.ListN.{length}
use Rattle.fdt_values.specs.Value.{Value}
use Rattle.fdt_format.specs.Events.{Event}
use Rattle.std.specs.Prelude.{Err}
use Rattle.fdt_record.specs.declared.Error.{Error}
use Rattle.fdt_record.specs.declared.Error.TheVariants.{DuplicateProperty, StringRoom, BlobRoom}
use Rattle.fdt_record.specs.declared.Outcome.{Outcome}
use Rattle.fdt_record.specs.Answers.{Done, error_number, accepts}
use Rattle.fdt_record.specs.Misfits.{overfull}
use Rattle.fdt_record.specs.Rows.{◌⇒◌}
use Rattle.fdt_record.specs.Tests.{alone_rows, blob_rows, strings_rows}
use Rattle.fdt_record.proofs.Answers.{accepts-done, upon-done, upon-refused}
use Rattle.fdt_record.proofs.Rows.{NoneHolds, ByName, by_name, all_errors, of_error, first-errors, only_row}
use Rattle.fdt_properties.specs.Property.{place_of, is_full, is_repeated, property_record, state_rows, name_rows, place_rows, property_rows, property_answer}
use Rattle.fdt_phandles.specs.Phandle.{phandle_name, phandle_value, record_rows, record_answer, phandle}
use Rattle.fdt_calls.specs.Calls.{to_have, to_mark, effect, Desk, answer, after, mark_answer, marked, left_by}
use Rattle.fdt_calls.proofs.Refused.{marked-answer, refused-after}
use Rattle.fdt_promises.specs.OpenNode.{open_names, rows_before20}
use Rattle.fdt_promises.proofs.Held.{Open, marked_open}
use Rattle.fdt_promises.proofs.Repeated.{repeated_exactly}

-- the error is not 20
abbrev other : Error → Bool
other error = not (eqb (error_number error) 20)

module _ {numbers : List ℕ} {es : List Event} {boot : ℕ} {marks : List ℕ} {s : Desk} (o : Open numbers es boot marks s) where
  pub open_refused : (name : List ℕ) (v : Value) → (answer (to_have name v) s ≡ Err DuplicateProperty) ↔ (NoneHolds (rows_before20 name v s) × Memᴰ name (open_names es))
  unfolding answer property_answer property_rows place_rows state_rows name_rows strings_rows blob_rows alone_rows all_errors ByName
  open_refused name v =
      let w = s.writer in
      let p = place_of w s.strings name in
      let row : (answer (to_have name v) s ≡ Err DuplicateProperty) ↔ (NoneHolds (rows_before20 name v s) × (is_repeated w s.blob p ≡ true)) =
      only_row other (rows_before20 name v s) (is_repeated w s.blob p) DuplicateProperty ((is_full p ⇒ StringRoom) ∷ (overfull (property_record w s.strings name v) ⇒ BlobRoom) ∷ []) refl refl refl
      in
      let unended : NoneHolds (rows_before20 name v s) → w.node_ended ≡ false =
      λ n. by_name (rows_before20 name v s) n (λ unfinished figures lent stored misfit text ended outside zero wrong. ended)
      in (
        λ e. let r = row.0 e in (r.0, (repeated_exactly o.holds o.plain (unended r.0) name).0 r.1),
        λ h. row.1 (h.0, (repeated_exactly o.holds o.plain (unended h.0) name).1 h.1),
      )

-- a phandle that is refused 20 passed its own tests
pub past_recording : (value : ℕ) (s : Desk) → answer (to_mark value) s ≡ Err DuplicateProperty → mark_answer value s ≡ Done
unfolding answer phandle record_answer record_rows strings_rows blob_rows alone_rows all_errors
past_recording value s e = go (accepts (mark_answer value s)) refl
  where
    go : (b : Bool) → accepts (mark_answer value s) ≡ b → mark_answer value s ≡ Done
    go true t = accepts-done (mark_answer value s) t
    go false t =
        let told : answer (to_mark value) s ≡ mark_answer value s = ap (λ (r : Outcome (Unit {0})). r.answer) (upon-refused (mark_answer value s) _ _ t) in
        absurd (true≢false (sym (first-errors other (record_rows s.writer (length s.blob) s.strings s.phandles value) refl) ∙ ap (of_error other) (sym told ∙ e)))

-- so its value is recorded
pub recorded_at_20 : (value : ℕ) (s : Desk) → answer (to_mark value) s ≡ Err DuplicateProperty → after (to_mark value) s ≡ marked s value
unfolding effect left_by accepts
recorded_at_20 value s e = refused-after s (to_mark value) (ap accepts e) ∙ upon-done (mark_answer value s) _ _ (past_recording value s e)

pub open_marked :
    {numbers : List ℕ} {es : List Event} {boot : ℕ} {marks : List ℕ} {s : Desk} → Open numbers es boot marks s → (value : ℕ) →
    (answer (to_mark value) s ≡ Err DuplicateProperty) ↔ ((mark_answer value s ≡ Done) × NoneHolds (rows_before20 phandle_name (phandle_value value) (marked s value)) × Memᴰ phandle_name (open_names es))
open_marked {s = s} o value = (
  λ e.
      let d = past_recording value s e in
      let r = (open_refused (marked_open o value d) phandle_name (phandle_value value)).0 (sym (marked-answer s value d) ∙ e) in (d, r.0, r.1),
  λ h. marked-answer s value h.0 ∙ (open_refused (marked_open o value h.0) phandle_name (phandle_value value)).1 (h.1, h.2),
)
