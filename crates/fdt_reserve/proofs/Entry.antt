-- Exactly when a reservation is refused 8, and its values if it is not: by the two tests of the definition.
use mathlib.Core.Path.{◌≡◌, refl, sym, ap, ◌∙◌}
use mathlib.Core.Bool.{Bool, true, false, cond, ◌||◌}
use mathlib.Core.List.{List, [], ◌∷◌}
use mathlib.Core.Logic.{◌↔◌, ◌⊎◌, inl, inr}
use Prim.Native.Nat.{ℕ, ◌+◌, ◌^◌, ◌≤◌}
use native.Mathlib.Omega.{arith}
use borrow.Author.Tests.{eqb-true, eqb-false, leb-true, leb-false}
use lib.Dec.{eqb, leb}
use Rattle.fdt_reserve.specs.declared.FdtReserveEntry.{FdtReserveEntry}
use Rattle.std.specs.Prelude.{Ok, Err}
use Rattle.fdt_reserve.specs.Entry.{Reserved, invalid_reservation, invalid, reserved, number_of, values_of}
use Rattle.fdt_reserve.specs.Overlap.{start, size, entry_at}

module _ (address size : ℕ) where
  -- refused 8 exactly when the size is 0 or address + size is at least 2^64
  pub refused_exactly : (number_of (reserved address size) ≡ 8) ↔ ((size ≡ 0) ⊎ (2 ^ 64 ≤ address + size))
  unfolding reserved invalid number_of
  refused_exactly = go (eqb size 0) (leb (2 ^ 64) (address + size)) refl refl
    where
      go : (e l : Bool) → eqb size 0 ≡ e → leb (2 ^ 64) (address + size) ≡ l
          → (number_of (cond (e || l) (Err invalid_reservation) (Ok (record { address = address; size = size }))) ≡ 8) ↔ ((size ≡ 0) ⊎ (2 ^ 64 ≤ address + size))
      go true l p q = (λ h. inl (eqb-true size 0 p), λ h. refl)
      go false true p q = (λ h. inr (leb-true (2 ^ 64) (address + size) q), λ h. refl)
      go false false p q = (λ h. absurd (omega arith), λ h. absurd (neither h))
        where
          neither : (size ≡ 0) ⊎ (2 ^ 64 ≤ address + size) → ⊥
          neither (inl z) = eqb-false size 0 p z
          neither (inr g) = let m = leb-false (2 ^ 64) (address + size) q in omega arith

  -- a reservation that is not refused has the address and size asked for
  pub accepted-values : number_of (reserved address size) ≡ 0 → values_of (reserved address size) ≡ address ∷ size ∷ []
  unfolding reserved number_of values_of
  accepted-values = go (invalid address size)
    where
      go : (b : Bool) → number_of (cond b (Err invalid_reservation) (Ok (record { address = address; size = size }))) ≡ 0
          → values_of (cond b (Err invalid_reservation) (Ok (record { address = address; size = size }))) ≡ address ∷ size ∷ []
      go true h = absurd (omega arith)
      go false h = refl

-- Two results of `FdtReserveEntry::new` for the same numbers are equal.
pub one-reserved : (address size : ℕ) {r s : Reserved} → r ≡ reserved address size → s ≡ reserved address size → r ≡ s
one-reserved address size p q = p ∙ sym q

-- The result of making reservation k, as read from the list.
module _ (numbers : List ℕ) (k : ℕ) (entry : FdtReserveEntry) (answer : Reserved) (read : entry ≡ entry_at numbers k) (made : answer ≡ reserved entry.address entry.size) where
  -- the result by the definition's test
  made_by : answer ≡ cond (invalid (start numbers k) (size numbers k)) (Err invalid_reservation) (Ok (entry_at numbers k))
  unfolding reserved entry_at
  made_by = made ∙ ap (λ (e : FdtReserveEntry). reserved e.address e.size) read

  pub refused-invalid : answer ≡ Err invalid_reservation → invalid (start numbers k) (size numbers k) ≡ true
  refused-invalid e = go (invalid (start numbers k) (size numbers k)) (sym made_by ∙ e)
    where
      go : (b : Bool) → cond b (Err invalid_reservation) (Ok (entry_at numbers k)) ≡ Err invalid_reservation → b ≡ true
      go true e = refl
      go false e = cc

  pub taken_valid : (f : FdtReserveEntry) → answer ≡ Ok f → invalid (start numbers k) (size numbers k) ≡ false
  taken_valid f e = go (invalid (start numbers k) (size numbers k)) (sym made_by ∙ e)
    where
      go : (b : Bool) → cond b (Err invalid_reservation) (Ok (entry_at numbers k)) ≡ Ok f → b ≡ false
      go true e = cc
      go false e = refl
