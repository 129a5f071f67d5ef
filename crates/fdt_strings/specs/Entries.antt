-- The strings area as entries, each ended by a 0: "A name is found only as a whole entry, and the first such entry counts" (document 01, "The bytes").
use Rattle.std.specs.Prelude.{ℕ, ◌+◌, ◌<◌, Bool, true, false, cond, ◌&&◌, List, [], ◌∷◌, ◌++◌, length, eqb, Option, Some, None}

-- the values of a result
unfoldable pub found_values : Option ℕ → List ℕ
found_values (Some offset) = offset ∷ []
found_values None = []

-- a name with its 0, as it is stored
unfoldable pub entry : List ℕ → List ℕ
entry name = name ++ (0 ∷ [])

-- no byte is 0
pub data NoZero : List ℕ → Type 0 where
  no_byte : NoZero []
  next_byte : {b : ℕ} {s : List ℕ} → 0 < b → NoZero s → NoZero (b ∷ s)

-- a byte put in front of the first entry; if there is none, the byte is in no entry
unfoldable pub with_byte : ℕ → List (List ℕ) → List (List ℕ)
with_byte b [] = []
with_byte b (e ∷ es) = (b ∷ e) ∷ es

-- the entries in order, each without its 0; bytes after the last 0 are not an entry
unfoldable pub entries : List ℕ → List (List ℕ)
entries [] = []
entries (b ∷ s) = cond (eqb b 0) ([] ∷ entries s) (with_byte b (entries s))

-- the bytes of entries, each with its 0
unfoldable pub joined : List (List ℕ) → List ℕ
joined [] = []
joined (e ∷ es) = entry e ++ joined es

-- the same bytes
unfoldable pub same : List ℕ → List ℕ → Bool
same [] [] = true
same [] (c ∷ t) = false
same (b ∷ s) [] = false
same (b ∷ s) (c ∷ t) = eqb b c && same s t

-- the offset of the first entry that is the name, if the first entry of all is at `offset`
unfoldable pub first_from : ℕ → List (List ℕ) → List ℕ → Option ℕ
first_from offset [] name = None
first_from offset (e ∷ es) name = cond (same e name) (Some offset) (first_from (offset + (length e + 1)) es name)

-- the offset of the name in the strings
unfoldable pub find_string : List ℕ → List ℕ → Option ℕ
find_string strings name = first_from 0 (entries strings) name
