-- The first tests of a call: where they are passed the record fits.
use mathlib.Core.Path.{◌≡◌}
use mathlib.Core.List.{List}
use Prim.Native.Nat.{ℕ}
use Rattle.fdt_record.specs.declared.Record.{Record}
use Rattle.fdt_record.specs.Answers.{Done}
use Rattle.fdt_record.specs.Rows.{first}
use Rattle.fdt_record.specs.Tests.{alone_rows, blob_rows, strings_rows}
use Rattle.fdt_record.proofs.Fits.{FitRecord, fit_record, FitBlob, fit_blob, FitStrings, fit_strings}
use Rattle.fdt_record.proofs.Rows.{ByName, by_name, exactly}

-- the tests of a record and a blob were passed
pub record BlobPassed (w : Record) (lent : ℕ) : Type 0 where
  pub alone : FitRecord w
  pub blob : FitBlob w lent

pub blob-passed : (w : Record) (lent : ℕ) → first (blob_rows w lent) ≡ Done → BlobPassed w lent
unfolding blob_rows alone_rows ByName
blob-passed w lent accepted =
    by_name (blob_rows w lent) ((exactly (blob_rows w lent)).accepted.0 accepted)
    (λ unfinished figures blob. record { alone = fit_record w figures; blob = fit_blob w lent blob })

-- and those of the strings
pub record StringsPassed (w : Record) (lent : ℕ) (bytes : List ℕ) : Type 0 where
  pub blob : FitBlob w lent
  pub strings : FitStrings w bytes

pub strings-passed : (w : Record) (lent : ℕ) (strings : List ℕ) → first (strings_rows w lent strings) ≡ Done → StringsPassed w lent strings
unfolding strings_rows blob_rows alone_rows ByName
strings-passed w lent strings accepted =
    by_name (strings_rows w lent strings) ((exactly (strings_rows w lent strings)).accepted.0 accepted)
    (λ unfinished figures blob stored. record { blob = fit_blob w lent blob; strings = fit_strings w strings stored })
