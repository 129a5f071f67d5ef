-- Reservations are counted one by one, up to the all-zero pair.
use mathlib.Core.Path.{◌≡◌, refl, ap, ◌∙◌}
use mathlib.Core.Bool.{Bool, true, false, ◌&&◌, cond}
use mathlib.Core.List.{List, []}
use mathlib.Core.Option.{Option, none, some}
use Prim.Native.Nat.{ℕ, suc, ◌+◌, ◌-◌, ◌*◌, ◌≤◌, ◌<◌}
use native.Mathlib.Omega.{arith}
use lib.Dec.{eqb}
use lib.ListN.{length}
use Rattle.std.specs.declared.result.Result.{Result}
use Rattle.std.specs.declared.result.Result.TheVariants.{Ok, Err}
use Rattle.fdt_bytes.specs.BigEndian.{wide_at}
use Rattle.fdt_format.specs.declared.Unreadable.{Unreadable}
use Rattle.fdt_format.specs.declared.Unreadable.TheVariants as unreadable
use Rattle.fdt_format.specs.Description.{Reservation}
use Rattle.fdt_format.specs.Reading.{with_reservation, reservations_at}
use Rattle.fdt_read_header.specs.Counted.{counted}

-- the same after n reservations
unfoldable pub counted_from : ℕ → Option (List Reservation) → Result ℕ Unreadable
counted_from n none = Err unreadable.Reservations
counted_from n (some rs) = Ok (n + length rs)

-- after none it is the same
pub from_0 : (rs : Option (List Reservation)) → counted rs ≡ counted_from 0 rs
unfolding counted counted_from
from_0 none = refl
from_0 (some rs) = ap Ok (omega arith)

-- one reservation more in front
one_more : (address size n : ℕ) (rs : Option (List Reservation)) → counted_from n (with_reservation address size rs) ≡ counted_from (n + 1) rs
unfolding counted_from with_reservation
one_more address size n none = refl
one_more address size n (some rs) = ap Ok (omega arith)

-- whether the pair at a place is all zero
abbrev pub zero_pair : List ℕ → ℕ → Bool
zero_pair b at = eqb (wide_at b at) 0 && eqb (wide_at b (at + 8)) 0

-- no pair is inside
pub none_inside : (b : List ℕ) (most from : ℕ) → most ≡ 0 → Err unreadable.Reservations ≡ counted (reservations_at b most from)
unfolding counted reservations_at
none_inside b most from e = rw e

-- the answer after n reservations, with so many pairs left from a place on
module _ (b : List ℕ) (n rest at : ℕ) where
  unrolled : 0 < rest
      → reservations_at b rest at ≡ cond (zero_pair b at) (some []) (with_reservation (wide_at b at) (wide_at b (at + 8)) (reservations_at b (rest - 1) (at + 16)))
  unfolding reservations_at
  unrolled more = let e : rest ≡ suc (rest - 1) = omega arith in ap (λ (m : ℕ). reservations_at b m at) e

  -- the all-zero pair is at the place
  pub ends_at : 0 < rest → zero_pair b at ≡ true → counted_from n (reservations_at b rest at) ≡ Ok n
  unfolding counted_from
  ends_at more z = rw (unrolled more, z) (ap Ok (omega arith))

  -- a reservation is at the place
  pub another_at : 0 < rest → zero_pair b at ≡ false → counted_from n (reservations_at b rest at) ≡ counted_from (n + 1) (reservations_at b (rest - 1) (at + 16))
  another_at more z = rw (unrolled more, z) (one_more _ _ n _)

  -- no pair is left
  pub none_at : rest ≡ 0 → counted_from n (reservations_at b rest at) ≡ Err unreadable.Reservations
  unfolding counted_from reservations_at
  none_at e = rw e

module _ (b : List ℕ) (most from : ℕ) where
  -- the answer after n reservations, for the pairs after them
  abbrev pub left : ℕ → Result ℕ Unreadable
  left n = counted_from n (reservations_at b (most - n) (from + 16 * n))

  pub starts : counted (reservations_at b most from) ≡ left 0
  starts = let e : most - 0 ≡ most = omega arith in let f : from + 16 * 0 ≡ from = omega arith in rw (e, f) (from_0 (reservations_at b most from))

  module _ (n : ℕ) where
    -- here is the all-zero pair
    pub ends-here : n < most → zero_pair b (from + 16 * n) ≡ true → left n ≡ Ok n
    ends-here more z = ends_at b n (most - n) (from + 16 * n) (omega arith) z

    -- here is a reservation
    pub another_pair : n < most → zero_pair b (from + 16 * n) ≡ false → left n ≡ left (n + 1)
    another_pair more z =
        let e : most - n - 1 ≡ most - (n + 1) = omega arith in
        let f : from + 16 * n + 16 ≡ from + 16 * (n + 1) = omega arith in
        another_at b n (most - n) (from + 16 * n) (omega arith) z ∙ rw (e, f)

    -- no pair is left
    pub no_pair_left : most ≤ n → left n ≡ Err unreadable.Reservations
    no_pair_left h = none_at b n (most - n) (from + 16 * n) (omega arith)
