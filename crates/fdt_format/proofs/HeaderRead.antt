-- A header is read back: each of its words, the areas that they name, and every test that a reading makes of them.
use mathlib.Core.Path.{◌≡◌, refl, sym, ◌∙◌}
use mathlib.Core.Bool.{true}
use mathlib.Core.List.{List}
use Prim.Native.Nat.{ℕ, ◌+◌, ◌*◌, ◌%◌, ◌≤◌, ◌<◌, ◌^◌}
use native.Mathlib.Omega.{arith}
use borrow.Author.Tests.{eq-eqb, le-leb}
use lib.ListN.{length, get_or}
use Rattle.fdt_bytes.specs.BigEndian.{word_at}
use Rattle.fdt_format.specs.declared.Areas.{Areas}
use Rattle.fdt_header.specs.Header.{magic, version, last_compatible, header_size, structure_start, words_from, header_words, header_bytes}
use Rattle.fdt_format.specs.Reading.{areas_of, good_words, good_areas, good_header}
use Rattle.fdt_format.proofs.Words.{BytesAt, cell_at}

-- the areas of a blob with n reservations whose structure ends and whose strings begin at `strings`
unfoldable pub areas_from : ℕ → ℕ → ℕ → ℕ → Areas
areas_from n strings stringsSize boot = record {
  reservations = header_size;
  structure = structure_start n;
  structure_end = strings;
  strings = strings;
  strings_end = strings + stringsSize;
  boot = boot;
}

module _ (b : List ℕ) (n strings stringsSize boot : ℕ) (h : BytesAt b 0 (header_bytes n strings stringsSize boot)) (order : structure_start n ≤ strings) (total : length b ≡ strings + stringsSize) (small : length b < 2 ^ 32) (boots : boot < 2 ^ 32) where
  word : (k to : ℕ) → 4 * k ≡ to → k < 10 → get_or (header_words n strings stringsSize boot) k 0 < 2 ^ 32 → word_at b to ≡ get_or (header_words n strings stringsSize boot) k 0
  unfolding header_bytes header_words words_from
  word k to e i l = cell_at 4 (header_words n strings stringsSize boot) k to h i (omega arith) (omega arith)

  pub areas_read : areas_of b ≡ areas_from n strings stringsSize boot
  unfolding areas_of areas_from header_words words_from
  areas_read =
      let structure : word_at b 8 ≡ structure_start n = word 2 8 refl (omega arith) (omega arith) in
      let at : word_at b 12 ≡ strings = word 3 12 refl (omega arith) (omega arith) in
      let reservations : word_at b 16 ≡ header_size = word 4 16 refl (omega arith) (omega arith) in
      let number : word_at b 28 ≡ boot = word 7 28 refl (omega arith) boots in
      let size : word_at b 32 ≡ stringsSize = word 8 32 refl (omega arith) (omega arith) in
      let end : word_at b 8 + word_at b 36 ≡ strings = omega (arith, word 9 36 refl (omega arith) (omega arith)) in
      rw (end, structure, at, reservations, number, size)

  pub header-good : good_header b ≡ true
  unfolding good_header good_words good_areas header_words words_from areas_from
  header-good =
      let w₀ : word_at b 0 ≡ magic = word 0 0 refl (omega arith) (omega arith) in
      let w₁ : word_at b 4 ≡ length b = word 1 4 refl (omega arith) (omega arith) ∙ sym total in
      let w₅ : word_at b 20 ≡ version = word 5 20 refl (omega arith) (omega arith) in
      let w₆ : word_at b 24 ≡ last_compatible = word 6 24 refl (omega arith) (omega arith) in
      rw (areas_read, w₀, w₁, w₅, w₆)
      (simp (
        le-leb header_size (length b) (omega arith),
        eq-eqb (length b) (length b) refl,
        eq-eqb (structure_start n % 4) 0 (omega arith),
        le-leb strings (length b) (omega arith),
        le-leb (strings + stringsSize) (length b) (omega arith),
      ))
