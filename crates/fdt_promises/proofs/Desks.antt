-- What an accepted call leaves on the desk: its own bytes and figures.
use mathlib.Core.Path.{◌≡◌, refl}
use mathlib.Core.List.{List}
use Prim.Native.Nat.{ℕ, ◌+◌}
use lib.ListN.{length}
use Rattle.fdt_bytes.specs.Splice.{splice}
use Rattle.fdt_format.specs.Tokens.{begin_bytes, end_bytes}
use Rattle.fdt_values.specs.Value.{Value, value_bytes}
use Rattle.fdt_format.specs.Description.{◌≔◌}
use Rattle.fdt_format.specs.Events.{Event, begins, has, ends}
use Rattle.fdt_record.specs.Answers.{Done}
use Rattle.fdt_record.specs.Fields.{with_used_blob, with_used_strings, with_depth, with_start, with_boot, with_ended}
use Rattle.fdt_record.proofs.Answers.{upon-done}
use Rattle.fdt_opening.specs.Opening.{opening, opening_blob, opening_bytes, opened_record}
use Rattle.fdt_nodes.specs.Begin.{begin, begin_blob, begun_record}
use Rattle.fdt_nodes.specs.End.{end, end_blob, ended_record}
use Rattle.fdt_properties.specs.Property.{property, property_blob, property_strings, property_record, place_of, added, stored, written}
use Rattle.fdt_finish.specs.Boot.{boot}
use Rattle.fdt_finish.specs.Finish.{finish, finish_blob, finished_record, finished_blob}
use Rattle.fdt_calls.specs.Calls.{to_open, to_boot, to_begin, to_end, to_have, to_finish, Desk, with_writer, with_blob, with_strings, answer, after}
use Rattle.fdt_calls.proofs.Desks.{same-desk}
use Rattle.fdt_promises.specs.Run.{deepens, closes}
use Rattle.fdt_promises.proofs.OpenNode.{start_after}

-- the desk after one more event: the event's bytes after the used part, these strings with `names` bytes used, and the figures that
-- events change
abbrev pub grown : Desk → Event → (bytes strings : List ℕ) (names : ℕ) → Desk
grown s e bytes strings names =
    let w = s.writer in
    let used = w.blob_used + length bytes in
    with_writer (with_used_blob used (with_used_strings names (with_depth (deepens w.node_depth e) (with_start (start_after e used w.node_start) (with_ended (closes w.node_ended e) w)))))
    (with_blob (splice w.blob_used bytes s.blob) (with_strings strings s))

module _ (s : Desk) where
  pub opened_after : (numbers : List ℕ) → answer (to_open numbers) s ≡ Done → after (to_open numbers) s ≡ with_writer (opened_record (length s.blob) (length s.strings) (length s.phandles) numbers) (with_blob (splice 0 (opening_bytes numbers) s.blob) s)
  unfolding answer after opening opening_blob
  opened_after numbers e = same-desk (upon-done _ _ _ e) (upon-done _ _ _ e) refl refl

  pub booted_after : (n : ℕ) → answer (to_boot n) s ≡ Done → after (to_boot n) s ≡ with_writer (with_boot n s.writer) s
  unfolding answer after boot
  booted_after n e = same-desk (upon-done _ _ _ e) refl refl refl

  pub begun-after : (name : List ℕ) → answer (to_begin name) s ≡ Done → after (to_begin name) s ≡ grown s (begins name) (begin_bytes name) s.strings s.writer.strings_used
  unfolding answer after begin begin_blob begun_record deepens closes start_after
  begun-after name e = same-desk (upon-done _ _ _ e) (upon-done _ _ _ e) refl refl

  pub ended-after : (handle : ℕ) → answer (to_end handle) s ≡ Done → after (to_end handle) s ≡ grown s ends end_bytes s.strings s.writer.strings_used
  unfolding answer after end end_blob ended_record deepens closes start_after
  ended-after handle e = same-desk (upon-done _ _ _ e) (upon-done _ _ _ e) refl refl

  pub had_after : (name : List ℕ) (v : Value) → answer (to_have name v) s ≡ Done →
      after (to_have name v) s ≡ grown s (has (name ≔ value_bytes v)) (written s.writer s.strings name v) (stored (place_of s.writer s.strings name) name s.strings) (s.writer.strings_used + added (place_of s.writer s.strings name) name)
  unfolding answer after property property_blob property_strings property_record deepens closes start_after
  had_after name v e = same-desk (upon-done _ _ _ e) (upon-done _ _ _ e) (upon-done _ _ _ e) refl

  pub finished_after : answer to_finish s ≡ Done → after to_finish s ≡ with_writer (finished_record s.writer) (with_blob (finished_blob s.writer s.blob s.strings) s)
  unfolding answer after finish finish_blob
  finished_after e = same-desk (upon-done _ _ _ e) (upon-done _ _ _ e) refl refl
