-- The filter before the look back: a property with the offset has three bytes, so where no place has them, there is none.
use mathlib.Core.Path.{◌≡◌, refl, ap, ◌∙◌}
use mathlib.Core.Bool.{Bool, true, false, true≢false}
use mathlib.Core.List.{List}
use Prim.Native.Nat.{ℕ, ◌+◌, ◌-◌, ◌/◌, ◌%◌, ◌≤◌, ◌<◌}
use native.Mathlib.Omega.{arith}
use lib.ListN.{length, get_or}
use Rattle.std.specs.Prelude.{Option, Some, None}
use Rattle.std.specs.Option.{is_some}
use Rattle.fdt_bytes.proofs.BigEndian.{word_last, word_third}
use Rattle.fdt_format.specs.LookBack.{look_back}
use Rattle.fdt_format.specs.Tokens.{property_token}
use Rattle.fdt_format.proofs.LookBack.{FoundFrom, look_place}
use Rattle.fdt_search.specs.Clues.{HasClues, Nowhere, NextGap}
use Rattle.fdt_search.specs.declared.Clues.{Clues}

-- the last byte of the token, and the last two of the offset
abbrev pub clues_of : ℕ → Clues
clues_of offset = record {
  first = record { at = 11; byte = offset % 256 };
  second = record { at = 10; byte = offset / 256 % 256 };
  third = record { at = 3; byte = property_token };
}

module _ (b : List ℕ) (bytes : (i : ℕ) → get_or b i 0 < 256) {end : ℕ} (l : end ≤ length b) (offset start : ℕ) where
  found_clues : (p : FoundFrom b end offset start) → HasClues b (clues_of offset) p.place
  found_clues p =
      let h : p.place + 8 + 4 ≤ length b = omega (arith, p.words) in
      let at : (i j k : ℕ) → i ≡ j + k → get_or b (p.place + i) 0 ≡ get_or b (p.place + j + k) 0 = λ i j k e. ap (λ (n : ℕ). get_or b n 0) (omega (arith, e)) in
      record {
        first = at 11 8 3 refl ∙ word_last b (p.place + 8) h bytes ∙ ap (λ (n : ℕ). n % 256) p.named;
        second = at 10 8 2 refl ∙ word_third b (p.place + 8) h bytes ∙ ap (λ (n : ℕ). n / 256 % 256) p.named;
        third = word_last b p.place (omega arith) bytes ∙ ap (λ (n : ℕ). n % 256) p.token;
      }

  -- no place where all words of a property can be has the clues
  pub nowhere_none : {to : ℕ} → to ≡ end - 11 → Nowhere b (clues_of offset) start to → look_back b end offset start ≡ false
  nowhere_none t none = go (look_back b end offset start) refl
    where
      go : (found : Bool) → look_back b end offset start ≡ found → found ≡ false
      go true e = let p = look_place b end offset start e in absurd (none p.place (omega (arith, t, p.words)) p.on (found_clues p))
      go false e = refl

  -- a search that finds no place with the clues rules the offset out
  pub ruled_out : {to : ℕ} → to ≡ end - 11 → (r : Option ℕ) → NextGap b (clues_of offset) start to r → is_some r ≡ false → look_back b end offset start ≡ false
  ruled_out t (Some gap) w e = absurd (true≢false e)
  ruled_out t None none e = nowhere_none t none
