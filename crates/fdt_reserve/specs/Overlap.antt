-- Refusal 9: "some address lies in two reservations" (document 01, "When the desk says no").
-- Reservations are a list of numbers, address and size in turn; a number past its end counts as 0.
use Rattle.std.specs.Prelude.{◌≡◌, Bool, false, ◌&&◌, ◌||◌, List, ℕ, zero, suc, ◌+◌, ◌*◌, ◌/◌, ◌≤◌, ◌<◌, max, ltb, length, get_or}
use Rattle.fdt_reserve.specs.declared.FdtReserveEntry.{FdtReserveEntry}

-- the address at which reservation k starts
unfoldable pub start : List ℕ → ℕ → ℕ
start numbers k = get_or numbers (2 * k) 0

-- the size of reservation k
unfoldable pub size : List ℕ → ℕ → ℕ
size numbers k = get_or numbers (2 * k + 1) 0

-- reservation k
unfoldable pub entry_at : List ℕ → ℕ → FdtReserveEntry
entry_at numbers k = record { address = start numbers k; size = size numbers k }

-- an address lies in reservation k; none lies in one of size 0
pub record LiesIn (numbers : List ℕ) (k address : ℕ) : Type 0 where
  pub from : start numbers k ≤ address
  pub below : address < start numbers k + size numbers k

-- some address lies in two reservations
pub record Overlap (numbers : List ℕ) : Type 0 where
  pub address : ℕ
  pub one : ℕ
  pub other : ℕ
  pub different : one ≡ other → ⊥
  pub in_one : LiesIn numbers one address
  pub in_other : LiesIn numbers other address

-- the test is true of some number below n
unfoldable pub some_below : ℕ → (ℕ → Bool) → Bool
some_below zero test = false
some_below (suc n) test = test n || some_below n test

-- two ranges, each given by its start and size, share an address: the greater start lies in both
unfoldable pub share : ℕ → ℕ → ℕ → ℕ → Bool
share a s b t = ltb (max a b) (a + s) && ltb (max a b) (b + t)

-- two of the reservations share an address: `Overlap` as a test that can be computed
unfoldable pub overlapping : List ℕ → Bool
overlapping numbers =
    some_below (length numbers / 2) (λ k. some_below k (λ j. share (start numbers j) (size numbers j) (start numbers k) (size numbers k)))
