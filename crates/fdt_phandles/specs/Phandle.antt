-- What `property_phandle` answers and leaves (document 01: 18, 17, 13, 16, record, then as property).
use Rattle.std.specs.Prelude.{◌≡◌, List, [], ◌∷◌, ◌++◌, ℕ, ◌+◌, leb, length, take, set}
use Rattle.fdt_names.specs.Names.{one_of}
use Rattle.fdt_values.specs.Value.{Value, cells}
use Rattle.fdt_record.specs.declared.Error.TheVariants.{Misfit, DuplicatePhandle, PhandleRoom}
use Rattle.fdt_record.specs.declared.Outcome.{Outcome}
use Rattle.fdt_record.specs.declared.Record.{Record}
use Rattle.fdt_record.specs.Answers.{Answer, upon}
use Rattle.fdt_record.specs.Fields.{with_used_phandles}
use Rattle.fdt_record.specs.Misfits.{misfit_phandles}
use Rattle.fdt_record.specs.Rows.{Row, ◌⇒◌, first}
use Rattle.fdt_record.specs.Tests.{strings_rows}
use Rattle.fdt_properties.specs.Property.{property, property_blob, property_strings}

-- the fixed seven bytes `phandle`
unfoldable pub phandle_name : List ℕ
phandle_name = 112 ∷ 104 ∷ 97 ∷ 110 ∷ 100 ∷ 108 ∷ 101 ∷ []

-- the phandle as a value: one number of 4 bytes
unfoldable pub phandle_value : ℕ → Value
phandle_value value = cells 4 (value ∷ [])

-- the tests before the value is recorded, in their order
unfoldable pub record_rows : Record → ℕ → List ℕ → List ℕ → ℕ → List Row
record_rows w lent strings table value =
    strings_rows w lent strings
    ++ (misfit_phandles w (length table) ⇒ Misfit)
    ∷ (one_of (take w.phandles_used table) value ⇒ DuplicatePhandle)
    ∷ (leb w.phandles_room w.phandles_used ⇒ PhandleRoom)
    ∷ []

-- the answer before the value is recorded
unfoldable pub record_answer : Record → ℕ → List ℕ → List ℕ → ℕ → Answer
record_answer w lent strings table value = first (record_rows w lent strings table value)

-- the record with one phandle more
unfoldable pub recorded : Record → Record
recorded w = with_used_phandles (w.phandles_used + 1) w

-- the answer and the record: refused before the value is recorded, or what the property gives after it
unfoldable pub phandle : Record → List ℕ → List ℕ → List ℕ → ℕ → Outcome (Unit {0})
phandle w blob strings table value =
    upon (record_answer w (length blob) strings table value)
    (property (recorded w) blob strings phandle_name (phandle_value value))
    (record { answer = record_answer w (length blob) strings table value; after = w })

-- the blob afterwards
unfoldable pub phandle_blob : Record → List ℕ → List ℕ → List ℕ → ℕ → List ℕ
phandle_blob w blob strings table value =
    upon (record_answer w (length blob) strings table value)
    (property_blob (recorded w) blob strings phandle_name (phandle_value value))
    blob

-- the strings afterwards
unfoldable pub phandle_strings : Record → List ℕ → List ℕ → List ℕ → ℕ → List ℕ
phandle_strings w blob strings table value =
    upon (record_answer w (length blob) strings table value)
    (property_strings (recorded w) blob strings phandle_name (phandle_value value))
    strings

-- the table afterwards: the value recorded once 13 and 16 are passed, even if the property is then refused
unfoldable pub phandle_table : Record → ℕ → List ℕ → List ℕ → ℕ → List ℕ
phandle_table w lent strings table value =
    upon (record_answer w lent strings table value) (set table w.phandles_used value) table

-- the outcome of a call
pub record PhandleOutcome (w : Record) (blob strings table : List ℕ) (value : ℕ) (r : Outcome (Unit {0})) (blobAfter stringsAfter tableAfter : List ℕ) : Type 0 where
  pub result : r ≡ phandle w blob strings table value
  pub bytes : blobAfter ≡ phandle_blob w blob strings table value
  pub names : stringsAfter ≡ phandle_strings w blob strings table value
  pub handles : tableAfter ≡ phandle_table w (length blob) strings table value
