-- Where a list first has a byte.
use Rattle.std.specs.Prelude.{ℕ, suc, Bool, true, false, List, [], ◌∷◌, eqb}

-- 0 if the test holds, else one more than k
unfoldable pub index_after : Bool → ℕ → ℕ
index_after true k = 0
index_after false k = suc k

-- the place of the first byte of the list that is the given one, or the list's length
unfoldable pub index_of : ℕ → List ℕ → ℕ
index_of one [] = 0
index_of one (b ∷ s) = index_after (eqb b one) (index_of one s)
