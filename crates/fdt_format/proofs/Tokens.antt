-- How many bytes each token takes (document 01, "The bytes").
use mathlib.Core.Path.{◌≡◌, ap, ◌∙◌}
use mathlib.Core.List.{List, [], ◌∷◌}
use Prim.Native.Nat.{ℕ, ◌+◌}
use lib.ListN.{length, length-append}
use Rattle.fdt_bytes.specs.BigEndian.{big_endian, cell_bytes}
use Rattle.fdt_bytes.specs.Padding.{padded, round_up}
use Rattle.fdt_bytes.proofs.BigEndian.{length-big_endian, length-cells}
use Rattle.fdt_bytes.proofs.Padding.{length-padded}
use Rattle.fdt_strings.specs.Entries.{entry}
use Rattle.fdt_strings.proofs.Entries.{length-entry}
use Rattle.fdt_format.specs.Tokens.{begin_token, end_token, property_token, final_token, begin_bytes, property_bytes, property_size, end_bytes, final_bytes}

-- 4 + (length + 1 rounded up)
pub length-begin : (name : List ℕ) → length (begin_bytes name) ≡ 4 + round_up 4 (length name + 1)
unfolding begin_bytes
length-begin name =
    length-append (big_endian 4 begin_token) (padded 4 (entry name))
    ∙ ap (λ (n : ℕ). n + length (padded 4 (entry name))) (length-big_endian 4 begin_token)
    ∙ ap (λ (n : ℕ). 4 + n) (length-padded 4 (entry name) ∙ ap (round_up 4) (length-entry name))

-- 12 + (length rounded up)
pub length-property : (offset : ℕ) (value : List ℕ) → length (property_bytes offset value) ≡ property_size (length value)
unfolding property_bytes
length-property offset value =
    let words = property_token ∷ length value ∷ offset ∷ [] in
    length-append (cell_bytes 4 words) (padded 4 value)
    ∙ ap (λ (n : ℕ). n + length (padded 4 value)) (length-cells 4 words)
    ∙ ap (λ (n : ℕ). 12 + n) (length-padded 4 value)

pub length-end : length end_bytes ≡ 4
unfolding end_bytes
length-end = length-big_endian 4 end_token

-- 4 and the strings
pub length_final : (strings : List ℕ) → length (final_bytes strings) ≡ 4 + length strings
unfolding final_bytes
length_final strings =
    length-append (big_endian 4 final_token) strings ∙ ap (λ (n : ℕ). n + length strings) (length-big_endian 4 final_token)
