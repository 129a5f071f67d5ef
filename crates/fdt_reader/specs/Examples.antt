-- Examples of requests 1/14 and 3/14 (document 02), one table: blobs made by hand, and what the reader says of each. A blob with two faults
-- shows which one wins.
use Rattle.std.specs.Prelude.{List, [], ◌∷◌, ◌++◌, ℕ, zero, suc, ◌+◌, ◌-◌, set, take, replicate}
use Rattle.fdt_format.specs.Foreign.{altered, only, string_a, nested, ninety_two, tails, fours}
use Rattle.fdt_reader.specs.declared.Values.{Values}
use Rattle.fdt_reader.specs.Reader.{number_of, survey_number, fault_place, no_values, values_of, survey_of, answer_of, list_after}

-- what is said of a blob and a list: the number and the values of the answer, and the list afterwards; the number of the survey,
-- and the place of the first fault, or 0
pub record Said : Type 0 where
  pub number : ℕ
  pub values : Values
  pub list : List ℕ
  pub surveyed : ℕ
  pub fault : ℕ

-- a blob, a list, and what is expected of them
pub data Example : Type 0 where
  example : List ℕ → List ℕ → Said → Example

-- what the reader and the survey say
unfoldable pub given : Example → Said
given (example b list said) =
    record {
      number = number_of (answer_of b list);
      values = values_of (answer_of b list);
      list = list_after b list;
      surveyed = survey_number (survey_of b);
      fault = fault_place (survey_of b);
    }

-- what is expected
unfoldable pub expected : Example → Said
expected (example b list said) = said

-- accepted: the values, and the list afterwards
unfoldable pub accepts : List ℕ → List ℕ → Values → List ℕ → Example
accepts b list values after = example b list (record { number = 0; values = values; list = after; surveyed = 0; fault = 0 })

-- the list is too short
unfoldable pub short : List ℕ → List ℕ → Example
short b list = example b list (record { number = 30; values = no_values; list = list; surveyed = 0; fault = 0 })

-- refused: the number, and the place of the fault
unfoldable pub refuses : List ℕ → List ℕ → ℕ → ℕ → Example
refuses b list number place = example b list (record { number = number; values = no_values; list = list; surveyed = number; fault = place })

-- a list of n numbers
unfoldable pub room : ℕ → List ℕ
room n = replicate n 77

-- the entries of document 01's blob of 92 bytes
unfoldable pub three : List ℕ
three = 1 ∷ 56 ∷ 60 ∷ 0 ∷ 3 ∷ 64 ∷ 88 ∷ 4 ∷ 2 ∷ 80 ∷ 0 ∷ 0 ∷ []

-- the entries of n nodes with empty names, each inside the one before, by the places where the first begins and ends
unfoldable pub nested_entries : ℕ → ℕ → ℕ → List ℕ
nested_entries zero begin end = []
nested_entries (suc n) begin end = 1 ∷ begin ∷ (begin + 4) ∷ 0 ∷ (nested_entries n (begin + 8) (end - 4) ++ (2 ∷ end ∷ 0 ∷ 0 ∷ []))

-- the table
unfoldable pub examples : List Example
examples =
    -- three entries: room for three, for three and three numbers more, and one number too few
    accepts ninety_two (room 12) (record { boot = 0; reservations = 0; entries = 3 }) three
    ∷ accepts ninety_two (room 15) (record { boot = 0; reservations = 0; entries = 3 }) (three ++ room 3)
    ∷ short ninety_two (room 11)
    -- boot number 3, two reservations, nine entries; names are tails of one entry of the strings
    ∷ accepts tails (room 36) (record { boot = 3; reservations = 2; entries = 9 })
    (1 ∷ 100 ∷ 104 ∷ 0
    ∷ 3 ∷ 108 ∷ 88 ∷ 1
    ∷ 3 ∷ 124 ∷ 89 ∷ 4
    ∷ 1 ∷ 140 ∷ 144 ∷ 0
    ∷ 3 ∷ 148 ∷ 94 ∷ 0
    ∷ 2 ∷ 160 ∷ 0 ∷ 0
    ∷ 1 ∷ 164 ∷ 168 ∷ 0
    ∷ 2 ∷ 172 ∷ 0 ∷ 0
    ∷ 2 ∷ 176 ∷ 0 ∷ 0
    ∷ [])
    -- a bad header, and reservations without an all-zero pair; such reservations, and a bad structure
    ∷ refuses (set (altered 13 1) 0 0) (room 4) 21 0
    ∷ refuses (set (altered 13 1) 59 8) (room 4) 22 40
    -- a property whose value ends outside and whose name offset is bad; one behind an end, with a bad offset
    ∷ refuses (only (1 ∷ 0 ∷ 3 ∷ 100 ∷ 4 ∷ 2 ∷ 9 ∷ []) string_a) (room 12) 23 64
    ∷ refuses (only (1 ∷ 0 ∷ 1 ∷ 0 ∷ 2 ∷ 3 ∷ 0 ∷ 4 ∷ 2 ∷ 9 ∷ []) string_a) (room 20) 23 76
    -- a bad name offset, and later the final word inside a node
    ∷ refuses (only (1 ∷ 0 ∷ 3 ∷ 0 ∷ 4 ∷ 9 ∷ []) string_a) (room 12) 24 64
    -- the final word inside a node, and a short list
    ∷ refuses (only (1 ∷ 0 ∷ 9 ∷ []) []) (room 3) 23 64
    -- 64 nodes open; 65; a 65th whose name ends outside
    ∷ accepts (only (nested 64 (9 ∷ [])) []) (room 512) (record { boot = 0; reservations = 0; entries = 128 }) (nested_entries 64 56 820)
    ∷ refuses (only (nested 65 (9 ∷ [])) []) (room 520) 25 568
    ∷ refuses (only (take 128 (nested 64 []) ++ (1 ∷ 0x61616161 ∷ [])) []) (room 520) 23 568
    -- words 4 are skipped: every place is a token's
    ∷ accepts fours (room 28) (record { boot = 0; reservations = 0; entries = 7 })
    (1 ∷ 60 ∷ 64 ∷ 0
    ∷ 3 ∷ 76 ∷ 144 ∷ 4
    ∷ 1 ∷ 96 ∷ 100 ∷ 0
    ∷ 2 ∷ 108 ∷ 0 ∷ 0
    ∷ 2 ∷ 116 ∷ 0 ∷ 0
    ∷ 1 ∷ 124 ∷ 128 ∷ 0
    ∷ 2 ∷ 132 ∷ 0 ∷ 0
    ∷ [])
    -- words 4 alone; one as the last word; and then a property after an end, a bad name offset, a 65th begin
    ∷ refuses (only (4 ∷ 4 ∷ []) []) (room 4) 23 64
    ∷ refuses (only (1 ∷ 0 ∷ 2 ∷ 4 ∷ []) []) (room 8) 23 72
    ∷ refuses (only (1 ∷ 0 ∷ 1 ∷ 0 ∷ 2 ∷ 4 ∷ 3 ∷ 0 ∷ 0 ∷ 2 ∷ 9 ∷ []) string_a) (room 20) 23 80
    ∷ refuses (only (1 ∷ 0 ∷ 4 ∷ 3 ∷ 0 ∷ 4 ∷ 2 ∷ 9 ∷ []) string_a) (room 12) 24 68
    ∷ refuses (only (take 128 (nested 64 []) ++ (4 ∷ 1 ∷ 0 ∷ [])) []) (room 520) 25 572
    ∷ []
