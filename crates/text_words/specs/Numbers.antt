-- Numbers as words spell them.
use Rattle.std.specs.Prelude.{◌≡◌, ℕ, List, [], ◌∷◌, ◌++◌, ◌⊎◌}
use Rattle.std.specs.Str.Parse.{IsNumeral, digits_value}

-- the digits write n in a base, with one digit at least and nothing else
abbrev pub Writes : ℕ → List ℕ → ℕ → Type 0
Writes base digits n = IsNumeral base digits × (n ≡ digits_value base digits)

-- the word spells n: in decimal, or in hexadecimal after `0x`
abbrev pub Spells : List ℕ → ℕ → Type 0
Spells word n = Writes 10 word n ⊎ ((digits : List ℕ) × (word ≡ (48 ∷ 120 ∷ []) ++ digits) × Writes 16 digits n)
