-- Reservations are read back: pairs of numbers up to the all-zero pair, which no reservation is.
use mathlib.Core.Path.{◌≡◌, refl, ap, subst, ◌∙◌}
use mathlib.Core.Bool.{Bool, true, false, ◌&&◌}
use mathlib.Core.List.{List, [], ◌∷◌, ◌++◌, append_assoc}
use mathlib.Core.Option.{some}
use Prim.Native.Nat.{ℕ, zero, suc, ◌+◌, ◌*◌, ◌<◌, ◌^◌}
use native.Mathlib.Omega.{arith}
use borrow.Author.Tests.{ne_eqb, eqb-true}
use lib.Dec.{eqb}
use lib.ListN.{length, length-append}
use Rattle.fdt_bytes.specs.BigEndian.{big_endian, wide_at, cell_bytes}
use Rattle.fdt_bytes.specs.Padding.{zeros}
use Rattle.fdt_bytes.proofs.BigEndian.{length-cells, cells-append}
use Rattle.fdt_bytes.proofs.Padding.{length-zeros}
use Rattle.fdt_format.specs.Description.{Reservation, reservation}
use Rattle.fdt_header.specs.Header.{reservation_bytes}
use Rattle.fdt_format.specs.Reading.{with_reservation, reservations_at}
use Rattle.fdt_format.specs.Blob.{numbers_of, AllReservable}
use Rattle.fdt_format.proofs.Words.{BytesAt, bytes_left, bytes-right, cell_at}

length-numbers : (rs : List Reservation) → length (numbers_of rs) ≡ 2 * length rs
unfolding numbers_of
length-numbers [] = refl
length-numbers (reservation address size ∷ rs) = omega (arith, length-numbers rs)

-- 16 bytes each, and 16 zeros
pub length-reservations : (rs : List Reservation) → length (reservation_bytes (numbers_of rs)) ≡ 16 * length rs + 16
unfolding reservation_bytes
length-reservations rs =
    length-append (cell_bytes 8 (numbers_of rs)) (zeros 16)
    ∙ omega (arith, length-cells 8 (numbers_of rs), length-numbers rs, length-zeros 16)

-- the pair that ends them
end_pair : reservation_bytes [] ≡ cell_bytes 8 (0 ∷ 0 ∷ [])
unfolding reservation_bytes cell_bytes big_endian zeros
end_pair = refl

-- a pair in front of others
next_pair : (address size : ℕ) (numbers : List ℕ) → reservation_bytes (address ∷ size ∷ numbers) ≡ cell_bytes 8 (address ∷ size ∷ []) ++ reservation_bytes numbers
unfolding reservation_bytes
next_pair address size numbers =
    ap (λ (l : List ℕ). l ++ zeros 16) (cells-append 8 (address ∷ size ∷ []) numbers)
    ∙ append_assoc (cell_bytes 8 (address ∷ size ∷ [])) (cell_bytes 8 numbers) (zeros 16)

-- a reservation is not the pair that ends them
no_end : (address size : ℕ) → 0 < address + size → (eqb address 0 && eqb size 0) ≡ false
no_end address size h = go (eqb address 0) refl
  where
    go : (t : Bool) → eqb address 0 ≡ t → (t && eqb size 0) ≡ false
    go true e = ne_eqb size 0 (λ z. omega (arith, eqb-true address 0 e))
    go false e = refl

module _ (b : List ℕ) where
  -- a pair of numbers
  pair_at : (address size at : ℕ) (more : List ℕ) → address < 2 ^ 64 → size < 2 ^ 64 → BytesAt b at (cell_bytes 8 (address ∷ size ∷ more)) → (wide_at b at ≡ address) × (wide_at b (at + 8) ≡ size)
  pair_at address size at more i j h = (
    cell_at 8 (address ∷ size ∷ more) 0 at h (omega arith) (omega arith) (omega arith),
    cell_at 8 (address ∷ size ∷ more) 1 (at + 8) h (omega arith) (omega arith) (omega arith),
  )

  pub reservations-read : (rs : List Reservation) (k at : ℕ) → AllReservable rs → length rs < k → BytesAt b at (reservation_bytes (numbers_of rs)) → reservations_at b k at ≡ some rs
  unfolding reservations_at with_reservation AllReservable numbers_of
  reservations-read rs zero at t l h = absurd (omega arith)
  reservations-read [] (suc k) at t l h =
      let p = pair_at 0 0 at [] (omega arith) (omega arith) (subst (BytesAt b at) end_pair h) in
      rw (p.0, p.1)
  reservations-read (reservation address size ∷ rs) (suc k) at t l h =
      let two : List ℕ = address ∷ size ∷ [] in
      let g = subst (BytesAt b at) (next_pair address size (numbers_of rs)) h in
      let p = pair_at address size at [] t.0 t.1 (bytes_left (cell_bytes 8 two) (reservation_bytes (numbers_of rs)) g) in
      let others = bytes-right (cell_bytes 8 two) (reservation_bytes (numbers_of rs)) g (at + 16) (ap (λ (n : ℕ). at + n) (length-cells 8 two)) in
      rw (p.0, p.1, no_end address size t.2) (ap (with_reservation address size) (reservations-read rs k (at + 16) t.3 (omega arith) others))
