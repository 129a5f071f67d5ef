-- The words of the header from a computed start of the structure, and their length in bytes.
use mathlib.Core.Path.{◌≡◌, ap}
use Prim.Native.Nat.{ℕ}
use lib.ListN.{length}
use Rattle.fdt_bytes.proofs.BigEndian.{length-cells}
use Rattle.fdt_header.specs.Header.{header_size, structure_start, words_from, header_words, header_bytes}

module _ (n strings stringsSize boot : ℕ) where
  pub words_by_start : {start : ℕ} → start ≡ structure_start n → words_from start strings stringsSize boot ≡ header_words n strings stringsSize boot
  unfolding header_words
  words_by_start e = ap (λ (k : ℕ). words_from k strings stringsSize boot) e

  pub length-header : length (header_bytes n strings stringsSize boot) ≡ header_size
  unfolding header_bytes header_words words_from
  length-header = length-cells 4 (header_words n strings stringsSize boot)
