-- The starred cases hold: the one claim, by computing every row.
use mathlib.Core.Path.{◌≡◌, refl}
use mathlib.Core.Bool.{true}
use Rattle.fdt_bytes.specs.BigEndian.{big_endian, cell_bytes}
use Rattle.fdt_bytes.specs.Padding.{padding, round_up, zeros, padded}
use Rattle.fdt_bytes.specs.Splice.{over, splice}
use Rattle.fdt_names.specs.Grammar.{all, in_two, matches}
use Rattle.fdt_names.specs.Names.{is, one_of, letter, digit, name_byte, node_byte, property_byte, unit_address, node_name, property_name, has_zero}
use Rattle.fdt_reserve.specs.Entry.{invalid}
use Rattle.fdt_reserve.specs.Overlap.{start, size, some_below, share, overlapping}
use Rattle.fdt_strings.specs.Entries.{entry, with_byte, entries, same, first_from, find_string}
use Rattle.fdt_strings.specs.Interned.{new_name, or_else, interned, number_of, values_of}
use Rattle.fdt_format.specs.Tokens.{begin_bytes, property_bytes, final_bytes}
use Rattle.fdt_header.specs.Header.{reservation_bytes, words_from, header_words, header_bytes}
use Rattle.fdt_values.specs.Value.{value_bytes, misfit_value, zero_value}
use Rattle.fdt_record.specs.Answers.{accepts}
use Rattle.fdt_record.specs.Limits.{usable}
use Rattle.fdt_record.specs.Misfits.{misfit_record, misfit_room, off_structure, misfit_blob, misfit_strings, overfull}
use Rattle.fdt_record.specs.Rows.{first}
use Rattle.fdt_record.specs.Tests.{alone_rows, blob_rows, strings_rows}
use Rattle.fdt_opening.specs.Opening.{some_invalid, opening_rows, opening_answer, opened_record, closed_record, opening_bytes, opening, opening_blob}
use Rattle.fdt_nodes.specs.Begin.{begin_rows, begin_answer, begun_record, begin}
use Rattle.fdt_properties.specs.Property.{place_of, is_known, is_full, place_offset, is_repeated, added, written, property_record, state_rows, name_rows, place_rows, property_rows, property_answer, property}
use Rattle.fdt_finish.specs.Finish.{used_strings, finish_rows, finish_answer, finished_record, finished_blob, finish, finish_blob}
use Rattle.fdt_finish.specs.Shown.{showable, shown}
use Rattle.fdt_promises.specs.Examples.{dirty, empty_words}
use Rattle.fdt_promises.specs.Starred.{holds, all_hold, fresh, begin_gives, property_in, open_with, opened_over, opened_blob, empty_run, empty_blob, long, last, starred}

pub starred_hold : all_hold starred ≡ true
unfolding big_endian cell_bytes padding round_up zeros padded over splice all in_two matches is one_of letter digit name_byte node_byte property_byte unit_address node_name property_name has_zero invalid start size some_below share overlapping entry with_byte entries same first_from find_string new_name or_else interned begin_bytes property_bytes final_bytes reservation_bytes words_from header_words header_bytes value_bytes misfit_value zero_value accepts usable misfit_record misfit_room off_structure misfit_blob misfit_strings overfull first alone_rows blob_rows strings_rows some_invalid opening_rows opening_answer opened_record closed_record opening_bytes opening opening_blob begin_rows begin_answer begun_record begin place_of is_known is_full number_of place_offset values_of added written property_record state_rows name_rows is_repeated place_rows property_rows property_answer property used_strings finish_rows finish_answer finished_record finished_blob finish finish_blob showable shown holds all_hold fresh begin_gives property_in open_with dirty opened_over opened_blob empty_run empty_blob empty_words long last starred
starred_hold = refl
