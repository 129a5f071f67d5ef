-- Lengths rounded up to a multiple, and the zeros that fill the gap: "zeros to a multiple of 4" (document 01, "The bytes").
use Rattle.std.specs.Prelude.{ℕ, ◌+◌, ◌-◌, ◌%◌, List, ◌++◌, length, replicate}

-- how many bytes bring a length n to a multiple of m
unfoldable pub padding : ℕ → ℕ → ℕ
padding m n = (m - n % m) % m

-- a length n rounded up to a multiple of m
unfoldable pub round_up : ℕ → ℕ → ℕ
round_up m n = n + padding m n

-- n zero bytes
unfoldable pub zeros : ℕ → List ℕ
zeros n = replicate n 0

-- bytes, and zeros to a multiple of m
unfoldable pub padded : ℕ → List ℕ → List ℕ
padded m bs = bs ++ zeros (padding m (length bs))
