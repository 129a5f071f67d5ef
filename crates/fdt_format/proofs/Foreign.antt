-- The table of foreign blobs, one claim: the reading is computed on each.
use mathlib.Core.Path.{refl}
use Rattle.fdt_bytes.specs.BigEndian.{big_endian, cell_bytes, from_big_endian, number_at}
use Rattle.fdt_bytes.specs.Padding.{padding, round_up}
use Rattle.fdt_format.specs.Events.{in_front, meaning, whole, nodes_of}
use Rattle.fdt_format.specs.Step.{zero_from, begin_at, whole_at, property_at, end_at, final_at, step_at}
use Rattle.fdt_format.specs.Walk.{steps, walk, walk_start}
use Rattle.fdt_format.specs.Reading.{areas_of, good_words, good_areas, good_header, with_reservation, reservations_at, until_zero, name_at, event_at, walk_nodes, described, read_reservations, read_nodes, reading}
use Rattle.fdt_format.specs.Foreign.{first_token, AllRead, just_nodes, altered, only, string_a, nested, nest, ninety_two, tails, tails_say, overlap, fours, foreign}

pub foreign-read : AllRead foreign
unfolding big_endian cell_bytes from_big_endian number_at padding round_up in_front meaning whole nodes_of zero_from begin_at whole_at property_at end_at final_at step_at steps walk walk_start areas_of good_words good_areas good_header with_reservation reservations_at until_zero name_at event_at walk_nodes described read_reservations read_nodes reading first_token AllRead just_nodes altered only string_a nested nest ninety_two tails tails_say overlap fours foreign
foreign-read = (refl, (refl, (refl, (refl, (refl, (refl, (refl, (refl, (refl, (refl, (refl, (refl, (refl, (refl, (refl, (refl, (refl, (refl, (refl, (refl, (refl, (refl, (refl, (refl, (refl, (refl, refl, (refl, refl, (refl, refl, (refl, refl, (refl, refl, (refl, refl, (refl, refl, (refl, refl, (refl, refl, (refl, refl, (refl, refl, (refl, refl, (refl, refl, (refl, refl, (refl, refl, (refl, refl, (refl, (refl, (refl, (refl, (refl, (refl, (refl, (refl, (refl, (refl, tt)))))))))))))))))))))))))))))))))))))))))))))))))))
