-- The examples of requests 1/14 and 3/14: the one claim, by computing every row.
use mathlib.Core.Path.{◌≡◌, refl}
use mathlib.Core.List.{map}
use Rattle.fdt_bytes.specs.BigEndian.{big_endian, cell_bytes, from_big_endian, number_at}
use Rattle.fdt_bytes.specs.Padding.{padding, round_up}
use Rattle.fdt_format.specs.Foreign.{altered, only, string_a, nested, ninety_two, tails, fours}
use Rattle.fdt_format.specs.Reading.{areas_of, good_words, good_areas, good_header, with_reservation, reservations_at, read_reservations}
use Rattle.fdt_format.specs.Step.{zero_from, begin_at, whole_at, property_at, end_at, final_at, step_at}
use Rattle.fdt_format.specs.Walk.{walk_start}
use Rattle.fdt_walk.specs.ReaderWalk.{capped, reader_steps, reader_walk}
use Rattle.fdt_reader.specs.Examples.{given, expected, accepts, short, refuses, room, three, nested_entries, examples}
use Rattle.fdt_reader.specs.Reader.{refused_at, from_walk, from_reservations, outcome, surveyed_as, survey_of, answered_as, answer_of, listed, filled, list_as, list_after}

pub examples_hold : map given examples ≡ map expected examples
unfolding big_endian cell_bytes from_big_endian number_at padding round_up altered only string_a nested ninety_two tails fours areas_of good_words good_areas good_header with_reservation reservations_at read_reservations zero_from begin_at whole_at property_at end_at final_at step_at walk_start capped reader_steps reader_walk given expected accepts short refuses room three nested_entries examples refused_at from_walk from_reservations outcome surveyed_as survey_of answered_as answer_of listed filled list_as list_after
examples_hold = refl
