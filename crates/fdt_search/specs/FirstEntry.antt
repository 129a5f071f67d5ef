-- The first place where a name is a whole entry, in terms of bytes.
use Rattle.std.specs.Prelude.{ℕ, ◌+◌, ◌-◌, ◌<◌, ◌≡◌, List, length, get_or, Option, Some, None}

-- a byte of the name is at its place, and it is not 0
pub record PlainByte (s name : List ℕ) (place k : ℕ) : Type 0 where
  pub same : get_or s (place + k) 0 ≡ get_or name k 0
  pub plain : get_or name k 0 ≡ 0 → ⊥

-- the name is an entry at a place: its bytes, none of them 0, then a 0, and a 0 before it unless it is at the start
pub record EntryAt (s name : List ℕ) (place : ℕ) : Type 0 where
  pub fits : place + length name < length s
  pub bytes : (k : ℕ) → k < length name → PlainByte s name place k
  pub ended : get_or s (place + length name) 0 ≡ 0
  pub begun : 0 < place → get_or s (place - 1) 0 ≡ 0

-- the name is an entry at no place before `to`
abbrev pub NoEntry : List ℕ → List ℕ → ℕ → Type 0
NoEntry s name to = (place : ℕ) → place < to → EntryAt s name place → ⊥

-- the first place where the name is an entry, or nothing, where it is one at no place
abbrev pub FirstEntry : List ℕ → List ℕ → Option ℕ → Type 0
FirstEntry s name (Some place) = EntryAt s name place × NoEntry s name place
FirstEntry s name None = NoEntry s name (length s)
