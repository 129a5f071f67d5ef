-- A numeral is text.
use Rattle.std.proofs.lemmas.Bool.Decides.{nat_tests}
use Rattle.std.proofs.Common.{arith, ℕ, zero, suc, ◌<◌, ◌≤◌, List, [], ◌∷◌}
use Rattle.std.proofs.lemmas.Str.{IsUtf8-from_ascii}
use Rattle.std.specs.Char.{digit_value}
use Rattle.std.specs.Str.{IsAscii, IsUtf8}
use Rattle.std.specs.Str.Parse.{AllDigits}

-- a byte that is a digit in some base is ASCII
digit_is_ascii : (c : ℕ) → digit_value c < 36 → c < 128
digit_is_ascii c h = grind (arith, nat_tests)

-- digits are ASCII
digits_are_ascii : (base : ℕ) (digits : List ℕ) → base ≤ 36 → AllDigits base digits → IsAscii digits
digits_are_ascii base [] small all i = omega (arith)
digits_are_ascii base (c ∷ cs) small all zero = digit_is_ascii c (omega (arith, all.0))
digits_are_ascii base (c ∷ cs) small all (suc i) = digits_are_ascii base cs small all.1 i

-- and so they are a text
pub digits_are_text : (base : ℕ) (digits : List ℕ) → base ≤ 36 → AllDigits base digits → IsUtf8 digits
digits_are_text base digits small all = IsUtf8-from_ascii digits (digits_are_ascii base digits small all)
