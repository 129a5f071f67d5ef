-- A run's description and its blob: from what the desk holds before finish, through finish, to the reading of the blob.
use mathlib.Core.Path.{◌≡◌, sym, ap, subst, ◌∙◌}
use mathlib.Core.Bool.{true, false}
use mathlib.Core.List.{List, [], Memᴰ}
use mathlib.Core.Logic.{◌↔◌}
use mathlib.Core.Option.{some, some-injective}
use Prim.Native.Nat.{ℕ, ◌+◌}
use lib.ListN.{length}
use Rattle.fdt_strings.specs.Entries.{joined}
use Rattle.fdt_format.specs.Blob.{names_of, structure_bytes, events_size, blob_from, blob_of, WellFormed}
use Rattle.fdt_format.specs.Description.{Nodes, Description}
use Rattle.fdt_format.specs.Distinct.{DistinctNames}
use Rattle.fdt_format.specs.Events.{events}
use Rattle.fdt_header.specs.Header.{structure_start}
use Rattle.fdt_format.specs.Reading.{reading}
use Rattle.fdt_format.proofs.ReadBack.{length_from, read-blob}
use Rattle.fdt_format.proofs.Structure.{structure-size}
use Rattle.fdt_record.specs.Answers.{Done}
use Rattle.std.specs.Prelude.{Err}
use Rattle.fdt_record.specs.declared.Error.TheVariants.{Misfit, DuplicateProperty}
use Rattle.fdt_record.proofs.Rows.{NoneHolds}
use Rattle.fdt_opening.specs.Opening.{count}
use Rattle.fdt_opening.proofs.Opening.{OpeningFits, opened-fits}
use Rattle.fdt_values.specs.Value.{Value}
use Rattle.fdt_properties.specs.Property.{place_of, is_repeated}
use Rattle.fdt_phandles.specs.Phandle.{phandle_name, phandle_value}
use Rattle.fdt_finish.proofs.Finishing.{finish-fits}
use Rattle.fdt_calls.specs.Calls.{Call, asks, to_have, to_mark, answer, mark_answer, marked}
use Rattle.fdt_promises.specs.Run.{boot_of, ended_of, Holds, FitDesk, Misgiven, reservations_of, with_nodes, describe, Run, all_ask, opened_desk, desk, history, events_in, boot_in, marks_in, description, Finishes, blob, Describes}
use Rattle.fdt_promises.specs.OpenNode.{none_open, open_names, rows_before20}
use Rattle.fdt_promises.proofs.Ended.{count_paired, shown-bytes, nodes_told, well_formed}
use Rattle.fdt_promises.proofs.Fitting.{open_fits, only-given}
use Rattle.fdt_promises.proofs.Held.{Open}
use Rattle.fdt_promises.proofs.OpenNode.{Once, once_distinct}
use Rattle.fdt_promises.proofs.Repeated.{repeated_exactly}
use Rattle.fdt_promises.proofs.Runs.{opened_open, runs_open}
use Rattle.fdt_promises.proofs.Refused20.{open_refused, open_marked}

-- the description of a run whose events are those of these nodes
abbrev pub told_by : Run → Nodes → Description
told_by r nodes = record { reservations = reservations_of r.numbers; boot = boot_in r; nodes = nodes }

-- the description of a run, which the format can hold, and its bytes
pub record Told (r : Run) : Type 0 where
  pub nodes : Nodes
  pub events_are : events nodes [] ≡ events_in r
  pub is : description r ≡ some (told_by r nodes)
  pub bytes : blob r ≡ blob_of (told_by r nodes)
  pub fits : WellFormed (told_by r nodes)
  pub distinct : DistinctNames nodes

module _ (r : Run) where
  -- a run that is not finished is open
  run_open : (desk r).writer.finished ≡ false → Open r.numbers (events_in r) (boot_in r) (marks_in r) (desk r)
  unfolding desk history opened_desk boot_of
  run_open u = runs_open (all_ask r.calls) r.between (opened_open r.before r.numbers r.opened) u

  pub run_holds : (desk r).writer.finished ≡ false → Holds r.numbers (events_in r) (boot_in r) (marks_in r) (desk r)
  run_holds u = (run_open u).holds

  -- while it is open, 17 is answered only for what a call is given
  pub run_fits : (desk r).writer.finished ≡ false → FitDesk (desk r)
  run_fits u = open_fits (run_open u)

  pub run_given : (desk r).writer.finished ≡ false → (c : Call) → (answer (asks c) (desk r) ≡ Err Misfit) ↔ Misgiven c
  run_given u = only-given (run_open u)

  -- while it is open, row 20 and refusal 20 are about the open node
  pub run_repeated : (desk r).writer.finished ≡ false → ended_of (events_in r) ≡ false → (name : List ℕ) → (is_repeated (desk r).writer (desk r).blob (place_of (desk r).writer (desk r).strings name) ≡ true) ↔ Memᴰ name (open_names (events_in r))
  run_repeated u e = let o = run_open u in repeated_exactly o.holds o.plain (o.holds.ended ∙ e)

  pub run_refused : (desk r).writer.finished ≡ false → (name : List ℕ) (v : Value) → (answer (to_have name v) (desk r) ≡ Err DuplicateProperty) ↔ (NoneHolds (rows_before20 name v (desk r)) × Memᴰ name (open_names (events_in r)))
  run_refused u = open_refused (run_open u)

  pub run_marked : (desk r).writer.finished ≡ false → (value : ℕ) → (answer (to_mark value) (desk r) ≡ Err DuplicateProperty) ↔ ((mark_answer value (desk r) ≡ Done) × NoneHolds (rows_before20 phandle_name (phandle_value value) (marked (desk r) value)) × Memᴰ phandle_name (open_names (events_in r)))
  run_marked u = open_marked (run_open u)

  -- the numbers of its opening are pairs, each of them valid
  opening-fits : OpeningFits (length r.before.blob) r.numbers
  unfolding answer
  opening-fits = opened-fits (length r.before.blob) _ _ r.numbers r.opened

  -- as many reservations as pairs
  pub run_count : length (reservations_of r.numbers) ≡ count r.numbers
  run_count = count_paired r.numbers opening-fits.even

  module _ (f : Finishes r) where
    -- before its finish it is open
    pub at_end : Open r.numbers (events_in r) (boot_in r) (marks_in r) (desk r)
    unfolding Finishes answer
    at_end = run_open (finish-fits (desk r).writer (length (desk r).blob) (desk r).strings f).unfinished

    shown-from : blob r ≡ blob_from (reservations_of r.numbers) (boot_in r) (events_in r)
    unfolding Finishes blob
    shown-from = shown-bytes at_end f opening-fits.even

    pub run_told : Told r
    unfolding Finishes description describe with_nodes blob_of
    run_told =
        let n = nodes_told at_end f in
        record {
          nodes = n.0;
          events_are = n.2;
          is = ap (with_nodes (reservations_of r.numbers) (boot_in r)) n.1;
          bytes = shown-from ∙ ap (blob_from (reservations_of r.numbers) (boot_in r)) (sym n.2);
          fits = well_formed at_end f opening-fits.even opening-fits.valid at_end.small n.0 n.2;
          distinct = once_distinct n.0 (subst (Once none_open) (sym n.2) at_end.once);
        }

    pub run_shown : (d : Description) × Describes r d × (blob r ≡ blob_of d)
    run_shown = (told_by r run_told.nodes, record { is = run_told.is; distinct = run_told.distinct }, run_told.bytes)

    -- there is no other description
    pub run_distinct : {d : Description} → description r ≡ some d → DistinctNames d.nodes
    run_distinct {d} e =
        subst (λ (x : Description). DistinctNames x.nodes) (some-injective (told_by r run_told.nodes) d (sym run_told.is ∙ e)) run_told.distinct

    pub run_length : length (blob r) ≡ structure_start (count r.numbers) + events_size (events_in r) + 4 + length (joined (names_of (events_in r)))
    run_length =
        let es = events_in r in
        ap length shown-from ∙ length_from (reservations_of r.numbers) (boot_in r) es
        ∙ ap (λ (n : ℕ). structure_start n + length (structure_bytes (names_of es) es) + 4 + length (joined (names_of es))) run_count
        ∙ ap (λ (n : ℕ). structure_start (count r.numbers) + n + 4 + length (joined (names_of es))) (structure-size (names_of es) es)

    pub run_read : reading (blob r) ≡ description r
    run_read = ap reading run_told.bytes ∙ read-blob (told_by r run_told.nodes) run_told.fits ∙ sym run_told.is

module _ (r q : Run) where
  pub same_runs : Finishes r → Finishes q → (blob r ≡ blob q) ↔ ((d : Description) × Describes r d × Describes q d)
  same_runs f g =
      let t = run_told r f in
      let u = run_told q g in (
        λ e. (told_by r t.nodes, record { is = t.is; distinct = t.distinct }, record { is = sym (run_read q g) ∙ ap reading (sym e) ∙ run_read r f ∙ t.is; distinct = t.distinct }),
        λ h.
            let one = some-injective (told_by r t.nodes) (told_by q u.nodes) (sym t.is ∙ h.1.is ∙ sym h.2.is ∙ u.is) in
            t.bytes ∙ ap blob_of one ∙ sym u.bytes,
      )

  pub same-history : r.numbers ≡ q.numbers → history r ≡ history q → description r ≡ description q
  unfolding description
  same-history e f = ap (λ (n : List ℕ). describe n (history r)) e ∙ ap (describe q.numbers) f
