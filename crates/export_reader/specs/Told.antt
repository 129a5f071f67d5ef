-- What the exported functions leave behind: the reader's answer and the survey as numbers.
use Rattle.std.specs.Prelude.{◌≡◌, List, [], ◌∷◌, ℕ}
use Rattle.fdt_reader.specs.declared.Values.{Values}
use Rattle.fdt_reader.specs.Reader.{number_of, values_of, survey_number, fault_place, survey_of, answer_of, list_after}

-- values as numbers: the boot number, and the counts of reservations and entries
abbrev pub as_numbers : Values → List ℕ
as_numbers v = v.boot ∷ v.reservations ∷ v.entries ∷ []

-- a call of `read_blob`: the number it returns, the list and the values after it
pub record ReadTold (b before after told : List ℕ) (r : ℕ) : Type 0 where
  pub number : r ≡ number_of (answer_of b before)
  pub list : after ≡ list_after b before
  pub values : told ≡ as_numbers (values_of (answer_of b before))

-- a call of `blob_fault`: the number it returns, and the place after it
pub record FaultTold (b : List ℕ) (place r : ℕ) : Type 0 where
  pub number : r ≡ survey_number (survey_of b)
  pub at : place ≡ fault_place (survey_of b)
