-- A description that the format can hold, and its blob written out: a reservation, a node with a property, and a child that uses the property's name again.
use mathlib.Core.Path.{◌≡◌, refl, sym, ap, subst, ◌∙◌}
use mathlib.Core.List.{List, [], ◌∷◌}
use mathlib.Core.Option.{some}
use Prim.Native.Nat.{ℕ, ◌<◌, ◌^◌}
use lib.Dec.{lit<}
use lib.ListN.{length}
use Rattle.fdt_bytes.specs.BigEndian.{big_endian, cell_bytes}
use Rattle.fdt_bytes.specs.Padding.{padding, round_up, zeros, padded}
use Rattle.fdt_bytes.specs.Splice.{splice}
use Rattle.fdt_strings.specs.Entries.{found_values, entry, joined, same, first_from, NoZero, no_byte, next_byte}
use Rattle.fdt_format.specs.Description.{◌≔◌, no_more, node, reservation, Description}
use Rattle.fdt_format.specs.Blanks.{words_four}
use Rattle.fdt_format.specs.Events.{begins, has, ends, property_events, events}
use Rattle.fdt_header.specs.Header.{reservation_bytes, words_from, header_words, header_bytes}
use Rattle.fdt_format.specs.Tokens.{begin_bytes, property_bytes, end_bytes, final_bytes}
use Rattle.fdt_format.specs.Reading.{reading}
use Rattle.fdt_format.specs.Blob.{or_at_end, with_name, names_from, names_of, found_at, offset_of, event_bytes, structure_bytes, event_size, events_size, numbers_of, blob_from, blob_of, Plain, AllPlain, AllReservable, WellFormed}
use Rattle.fdt_format.proofs.Blanked.{read_overwritten}
use Rattle.fdt_format.proofs.ReadBack.{read-blob}

-- "a" is 5 in the first node and empty in its child "b"
unfoldable pub example : Description
example = record {
  reservations = reservation 0x1000 0x200 ∷ [];
  boot = 7;
  nodes = node [] (((97 ∷ []) ≔ (5 ∷ [])) ∷ []) (node (98 ∷ []) (((97 ∷ []) ≔ []) ∷ []) no_more no_more) no_more;
}

-- the words of the header, the reservation and the pair that ends them, the structure word by word, and "a" with its 0
unfoldable pub example_bytes : List ℕ
example_bytes =
    208 ∷ 13 ∷ 254 ∷ 237 ∷ 0 ∷ 0 ∷ 0 ∷ 130 ∷ 0 ∷ 0 ∷ 0 ∷ 72 ∷ 0 ∷ 0 ∷ 0 ∷ 128 ∷ 0 ∷ 0 ∷ 0 ∷ 40 ∷
    0 ∷ 0 ∷ 0 ∷ 17 ∷ 0 ∷ 0 ∷ 0 ∷ 16 ∷ 0 ∷ 0 ∷ 0 ∷ 7 ∷ 0 ∷ 0 ∷ 0 ∷ 2 ∷ 0 ∷ 0 ∷ 0 ∷ 56 ∷
    0 ∷ 0 ∷ 0 ∷ 0 ∷ 0 ∷ 0 ∷ 16 ∷ 0 ∷ 0 ∷ 0 ∷ 0 ∷ 0 ∷ 0 ∷ 0 ∷ 2 ∷ 0 ∷
    0 ∷ 0 ∷ 0 ∷ 0 ∷ 0 ∷ 0 ∷ 0 ∷ 0 ∷ 0 ∷ 0 ∷ 0 ∷ 0 ∷ 0 ∷ 0 ∷ 0 ∷ 0 ∷
    0 ∷ 0 ∷ 0 ∷ 1 ∷ 0 ∷ 0 ∷ 0 ∷ 0 ∷
    0 ∷ 0 ∷ 0 ∷ 3 ∷ 0 ∷ 0 ∷ 0 ∷ 1 ∷ 0 ∷ 0 ∷ 0 ∷ 0 ∷ 5 ∷ 0 ∷ 0 ∷ 0 ∷
    0 ∷ 0 ∷ 0 ∷ 1 ∷ 98 ∷ 0 ∷ 0 ∷ 0 ∷
    0 ∷ 0 ∷ 0 ∷ 3 ∷ 0 ∷ 0 ∷ 0 ∷ 0 ∷ 0 ∷ 0 ∷ 0 ∷ 0 ∷
    0 ∷ 0 ∷ 0 ∷ 2 ∷ 0 ∷ 0 ∷ 0 ∷ 2 ∷ 0 ∷ 0 ∷ 0 ∷ 9 ∷
    97 ∷ 0 ∷ []

pub example-blob : blob_of example ≡ example_bytes
unfolding example example_bytes blob_of blob_from events property_events names_of names_from with_name or_at_end first_from same structure_bytes event_bytes offset_of found_at found_values begin_bytes property_bytes end_bytes final_bytes reservation_bytes numbers_of header_bytes header_words words_from cell_bytes big_endian padded padding zeros entry joined
example-blob = refl

example-small : length example_bytes < 2 ^ 32
unfolding example_bytes
example-small = lit< tt

one_byte : (n : ℕ) → 0 < n → NoZero (n ∷ [])
one_byte n h = next_byte h no_byte

-- the format can hold it
pub example_formed : WellFormed example
unfolding example events property_events AllPlain Plain AllReservable
example_formed = record {
  names = (no_byte, (one_byte 97 (lit< tt), (one_byte 98 (lit< tt), (one_byte 97 (lit< tt), (tt, (tt, tt))))));
  reservable = (lit< tt, lit< tt, lit< tt, tt);
  boot = lit< tt;
  size = subst (λ (l : List ℕ). length l < 2 ^ 32) (sym example-blob) example-small;
}

-- and these bytes are read as the description
pub example-read : reading example_bytes ≡ some example
example-read = ap reading (sym example-blob) ∙ read-blob example example_formed

-- with three words 4 over the child's property, at 104, they are read as the description without it
pub example_blanked :
    reading (splice 104 (words_four 3) example_bytes)
    ≡ some (record { reservations = reservation 0x1000 0x200 ∷ []; boot = 7; nodes = node [] (((97 ∷ []) ≔ (5 ∷ [])) ∷ []) (node (98 ∷ []) [] no_more no_more) no_more })
unfolding example events property_events events_size event_size round_up padding
example_blanked =
    ap (λ (b : List ℕ). reading (splice 104 (words_four 3) b)) (sym example-blob)
    ∙ read_overwritten example example_formed _ (begins [] ∷ has ((97 ∷ []) ≔ (5 ∷ [])) ∷ begins (98 ∷ []) ∷ []) (has ((97 ∷ []) ≔ []) ∷ []) (ends ∷ ends ∷ []) refl refl
