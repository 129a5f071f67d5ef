-- Laws of rounding up, for any multiple m above 0: the result is the least multiple of m that is not below the length.
use mathlib.Core.Path.{◌≡◌, sym, ap, ◌∙◌}
use Prim.Native.Nat.{ℕ, suc, ◌+◌, ◌-◌, ◌*◌, ◌/◌, ◌%◌, ◌≤◌, ◌<◌}
use native.Mathlib.Nat.{mod-lt, mod_self, add-mod-mod, mod-add-mod, mod-eq_of_lt, div-add-mod', mul-le-mul_right, lt_of_mul-lt-mul_right, suc-mul, le_of_suc-le-suc}
use native.Mathlib.Omega.{arith}
use mathlib.Core.List.{List}
use lib.ListN.{length, length-append, length-replicate}
use Rattle.fdt_bytes.specs.Padding.{padding, round_up, zeros, padded}

pub length-zeros : (n : ℕ) → length (zeros n) ≡ n
unfolding zeros
length-zeros n = length-replicate n 0

-- the length of padded bytes is rounded up
pub length-padded : (m : ℕ) (bs : List ℕ) → length (padded m bs) ≡ round_up m (length bs)
unfolding padded round_up
length-padded m bs = length-append bs (zeros (padding m (length bs))) ∙ ap (λ (n : ℕ). length bs + n) (length-zeros (padding m (length bs)))

module _ (m n : ℕ) (pos : 0 < m) where
  -- fewer than m bytes are added
  pub padding-small : padding m n < m
  unfolding padding
  padding-small = mod-lt (m - n % m) pos

  -- a multiple needs no padding
  pub padding_none : n % m ≡ 0 → padding m n ≡ 0
  unfolding padding
  padding_none e = ap (λ (k : ℕ). (m - k) % m) e ∙ ap (λ (k : ℕ). k % m) (let z : m - 0 ≡ m = omega arith in z) ∙ mod_self m

  -- any other length needs what is missing to the next multiple
  pub padding_some : (n % m ≡ 0 → ⊥) → padding m n ≡ m - n % m
  unfolding padding
  padding_some e = mod-eq_of_lt (omega (arith, mod-lt n pos))

  pub round_up_multiple : round_up m n % m ≡ 0
  unfolding padding round_up
  round_up_multiple =
      add-mod-mod n (m - n % m) m
      ∙ sym (mod-add-mod n m (m - n % m))
      ∙ ap (λ (k : ℕ). k % m) (let e : n % m + (m - n % m) ≡ m = omega (arith, mod-lt n pos) in e)
      ∙ mod_self m

  -- no smaller multiple is at least the length
  pub round_up_least : (k : ℕ) → k % m ≡ 0 → n ≤ k → round_up m n ≤ k
  unfolding round_up
  round_up_least k e h =
      let r = n + padding m n in
      let a : r / m * m + r % m ≡ r = div-add-mod' r m in
      let b : k / m * m + k % m ≡ k = div-add-mod' k m in
      let z : r % m ≡ 0 = round_up_multiple in
      let s : suc (k / m) * m ≡ k / m * m + m = suc-mul (k / m) m in
      let lt : r / m * m < suc (k / m) * m = omega (arith, padding-small) in
      let q : r / m ≤ k / m = le_of_suc-le-suc (lt_of_mul-lt-mul_right m lt) in
      omega (arith, mul-le-mul_right m q)
