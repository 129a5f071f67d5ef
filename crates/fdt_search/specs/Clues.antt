-- What the parts of the search test on the way. What `first_entry` promises does not depend on it.
use Rattle.std.specs.Prelude.{ℕ, ◌+◌, ◌≤◌, ◌<◌, ◌≡◌, List, ◌∷◌, length, get_or, Option, Some, None}
use Rattle.fdt_search.specs.declared.Clue.{Clue}
use Rattle.fdt_search.specs.declared.Clues.{Clues}

-- the clue is the 0 before the name, a byte of it, or the 0 after it, which `get_or` gives at the end
pub record ClueOf (name : List ℕ) (c : Clue) : Type 0 where
  pub inside : c.at ≤ length name + 1
  pub right : c.byte ≡ get_or (0 ∷ name) c.at 0

-- all three are clues of the name
pub record CluesOf (name : List ℕ) (c : Clues) : Type 0 where
  pub first : ClueOf name c.first
  pub second : ClueOf name c.second
  pub third : ClueOf name c.third

-- the bytes from `gap` on have all three clues
pub record HasClues (s : List ℕ) (c : Clues) (gap : ℕ) : Type 0 where
  pub first : get_or s (gap + c.first.at) 0 ≡ c.first.byte
  pub second : get_or s (gap + c.second.at) 0 ≡ c.second.byte
  pub third : get_or s (gap + c.third.at) 0 ≡ c.third.byte

-- no gap from `from` on and before `to` has the clues
abbrev pub Nowhere : List ℕ → Clues → ℕ → ℕ → Type 0
Nowhere s c from to = (gap : ℕ) → gap < to → from ≤ gap → HasClues s c gap → ⊥

-- what a search from `from` to `to` gives: a gap before which none has the clues, or nothing, where none at all has them
abbrev pub NextGap : List ℕ → Clues → ℕ → ℕ → Option ℕ → Type 0
NextGap s c from to (Some gap) = (from ≤ gap) × (gap < to) × Nowhere s c from gap
NextGap s c from to None = Nowhere s c from to

-- for every gap before `to`, the bytes that the clues ask for are in s
pub record Readable (s : List ℕ) (c : Clues) (to : ℕ) : Type 0 where
  pub first : to + c.first.at ≤ length s
  pub second : to + c.second.at ≤ length s
  pub third : to + c.third.at ≤ length s
