-- What every call with a record tests first (document 01, "Order of tests": 18, 17), by what the call is lent.
use Rattle.std.specs.Prelude.{List, [], ◌∷◌, ◌++◌, ℕ}
use Rattle.fdt_record.specs.declared.Error.TheVariants.{Finished, Misfit}
use Rattle.fdt_record.specs.declared.Record.{Record}
use Rattle.fdt_record.specs.Misfits.{misfit_record, misfit_blob, misfit_strings}
use Rattle.fdt_record.specs.Rows.{Row, ◌⇒◌}

-- the record alone
unfoldable pub alone_rows : Record → List Row
alone_rows w = (w.finished ⇒ Finished) ∷ (misfit_record w ⇒ Misfit) ∷ []

-- and a blob of this length
unfoldable pub blob_rows : Record → ℕ → List Row
blob_rows w lent = alone_rows w ++ (misfit_blob w lent ⇒ Misfit) ∷ []

-- and these strings
unfoldable pub strings_rows : Record → ℕ → List ℕ → List Row
strings_rows w lent strings = blob_rows w lent ++ (misfit_strings w strings ⇒ Misfit) ∷ []
