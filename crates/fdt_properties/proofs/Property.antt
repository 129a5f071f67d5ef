-- Laws of a property's tests: exactly when each answer is given, and what an accepted one passed.
use mathlib.Core.Path.{◌≡◌}
use mathlib.Core.Bool.{Bool, false}
use mathlib.Core.List.{List, ◌++◌}
use Prim.Native.Nat.{ℕ, ◌+◌, ◌≤◌, ◌<◌}
use native.Mathlib.Omega.{arith}
use borrow.Author.Tests.{eqb-false}
use lib.ListN.{length}
use Rattle.fdt_names.specs.Names.{has_zero}
use Rattle.fdt_values.specs.Value.{Value, misfit_value}
use Rattle.fdt_record.specs.declared.Record.{Record}
use Rattle.fdt_record.specs.Answers.{Done}
use Rattle.fdt_record.specs.Rows.{first}
use Rattle.fdt_record.specs.Tests.{alone_rows, blob_rows, strings_rows}
use Rattle.fdt_record.proofs.Fits.{FitRecord, fit_record, FitBlob, fit_blob, FitStrings, fit_strings, not_overfull}
use Rattle.fdt_record.proofs.Rows.{ByName, by_name, Exactly, exactly}
use Rattle.fdt_properties.specs.Property.{place_of, is_full, is_repeated, written, property_record, state_rows, name_rows, place_rows, property_rows, property_answer}

-- what the tests passed that do not search the strings
pub record FirstFits (w : Record) (lent : ℕ) (strings : List ℕ) (misfit : Bool) : Type 0 where
  pub blob_fits : FitBlob w lent
  pub names : FitStrings w strings
  pub in_order : misfit ≡ false

pub first_fits : (w : Record) (lent : ℕ) (strings name : List ℕ) (misfit zero : Bool) → first (state_rows w lent strings misfit zero ++ name_rows name) ≡ Done → FirstFits w lent strings misfit
unfolding state_rows strings_rows blob_rows alone_rows name_rows ByName
first_fits w lent strings name misfit zero told =
    by_name (state_rows w lent strings misfit zero ++ name_rows name) ((exactly _).accepted.0 told)
    (λ unfinished figures blob stored wrong plain ended outside text named.
    record { blob_fits = fit_blob w lent blob; names = fit_strings w strings stored; in_order = wrong })

module _ (w : Record) (blob strings name : List ℕ) (v : Value) where
  pub property_exactly : Exactly (property_rows w blob strings name v) (property_answer w blob strings name v)
  unfolding property_answer
  property_exactly = exactly (property_rows w blob strings name v)

  -- what an accepted property passed
  pub record PropertyFits : Type 0 where
    pub figures : FitRecord w
    pub blob_fits : FitBlob w (length blob)
    pub names : FitStrings w strings
    pub value : misfit_value v ≡ false
    pub unended : w.node_ended ≡ false
    pub inside : 0 < w.node_depth
    pub plain : has_zero name ≡ false
    pub once : is_repeated w blob (place_of w strings name) ≡ false
    pub placed : is_full (place_of w strings name) ≡ false
    pub room : w.blob_used + length (written w strings name v) ≤ w.blob_room

  pub property-fits : property_answer w blob strings name v ≡ Done → PropertyFits
  unfolding property_rows state_rows strings_rows blob_rows alone_rows name_rows place_rows property_record ByName
  property-fits e =
      by_name (property_rows w blob strings name v) (property_exactly.accepted.0 e)
      (λ unfinished figures lent stored misfit text ended outside zero wrong repeated full over.
      let d = eqb-false w.node_depth 0 outside in
      record {
        figures = fit_record w figures;
        blob_fits = fit_blob w (length blob) lent;
        names = fit_strings w strings stored;
        value = misfit;
        unended = ended;
        inside = omega arith;
        plain = zero;
        once = repeated;
        placed = full;
        room = not_overfull (property_record w strings name v) over;
      })
