-- Laws of tests: two of order that mean the same have the same value; two that both hold, or neither.
use mathlib.Core.Path.{◌≡◌, refl, sym, ◌∙◌}
use mathlib.Core.Bool.{Bool, true, false, ◌&&◌, ◌||◌, true≢false}
use Prim.Native.Nat.{ℕ, ◌<◌}
use native.Mathlib.Decide.{dec_lt}
use native.Mathlib.Omega.{arith}
use borrow.Author.Tests.{lt-ltb, le-ltb}
use lib.Dec.{ltb}

pub same_test : (p q r u : ℕ) → (p < q → r < u) → (r < u → p < q) → ltb p q ≡ ltb r u
same_test p q r u f g = go (dec_lt p q)
  where
    go : Dec (p < q) → ltb p q ≡ ltb r u
    go (yes l) = lt-ltb p q l ∙ sym (lt-ltb r u (f l))
    go (no n) = let m : r < u → ⊥ = λ l. n (g l) in le-ltb p q (omega arith) ∙ sym (le-ltb r u (omega arith))

pub both : (a b : Bool) → (a && b) ≡ true → (a ≡ true) × (b ≡ true)
both true b e = (refl, e)
both false b e = absurd (true≢false (sym e))

pub neither : (a b : Bool) → (a || b) ≡ false → (a ≡ false) × (b ≡ false)
neither true b e = absurd (true≢false e)
neither false b e = (refl, e)
