-- The request's cases hold: the one claim, by computing every row.
use mathlib.Core.Path.{◌≡◌, refl}
use mathlib.Core.Bool.{true}
use Rattle.fdt_bytes.specs.BigEndian.{big_endian, from_big_endian, number_at, cell_bytes}
use Rattle.fdt_bytes.specs.Padding.{padding, round_up, zeros, padded}
use Rattle.fdt_bytes.specs.Splice.{over, splice}
use Rattle.fdt_names.specs.Grammar.{all, in_two, matches}
use Rattle.fdt_names.specs.Names.{is, one_of, letter, digit, name_byte, node_byte, property_byte, unit_address, node_name, property_name, has_zero}
use Rattle.fdt_reserve.specs.Entry.{invalid}
use Rattle.fdt_reserve.specs.Overlap.{start, size, some_below, share, overlapping}
use Rattle.fdt_strings.specs.Entries.{entry, with_byte, entries, same, first_from, find_string}
use Rattle.fdt_strings.specs.Interned.{new_name, or_else, interned, number_of, values_of}
use Rattle.fdt_format.specs.LookBack.{looks_back, look_back}
use Rattle.fdt_format.specs.Step.{whole_at}
use Rattle.fdt_format.specs.Tokens.{begin_bytes, property_bytes, end_bytes, final_bytes}
use Rattle.fdt_header.specs.Header.{reservation_bytes, words_from, header_words, header_bytes}
use Rattle.fdt_values.specs.Value.{value_bytes, sum, misfit_value, zero_value}
use Rattle.fdt_record.specs.Answers.{accepts}
use Rattle.fdt_record.specs.Limits.{usable}
use Rattle.fdt_record.specs.Misfits.{misfit_record, misfit_room, off_structure, misfit_blob, misfit_strings, misfit_phandles, overfull}
use Rattle.fdt_record.specs.Rows.{first}
use Rattle.fdt_record.specs.Tests.{alone_rows, blob_rows, strings_rows}
use Rattle.fdt_opening.specs.Opening.{some_invalid, opening_rows, opening_answer, opened_record, closed_record, opening_bytes, opening, opening_blob}
use Rattle.fdt_nodes.specs.Begin.{begin_rows, begin_answer, begun_record, begin, begin_blob}
use Rattle.fdt_nodes.specs.End.{end_rows, end_answer, ended_record, end, end_blob}
use Rattle.fdt_properties.specs.Property.{place_of, is_known, is_full, place_offset, is_repeated, added, stored, written, property_record, state_rows, name_rows, place_rows, property_rows, property_answer, property, property_blob, property_strings}
use Rattle.fdt_phandles.specs.Phandle.{phandle_name, phandle_value, record_rows, record_answer, recorded, phandle, phandle_blob, phandle_strings, phandle_table}
use Rattle.fdt_finish.specs.Boot.{boot_answer, boot}
use Rattle.fdt_finish.specs.Finish.{used_strings, finish_rows, finish_answer, finished_record, finished_blob, finish, finish_blob}
use Rattle.fdt_calls.specs.Calls.{asks, answer, after}
use Rattle.fdt_promises.specs.Cases20.{numbers, in_node, answers_in_node, started_at, over_words, a, b, cases20}
use Rattle.fdt_promises.specs.Examples.{dirty}
use Rattle.fdt_promises.specs.Starred.{holds, all_hold}

pub cases_hold : all_hold cases20 ≡ true
unfolding asks answer after dirty big_endian cell_bytes padding round_up zeros padded over splice all in_two matches is one_of letter digit name_byte node_byte property_byte unit_address node_name property_name has_zero invalid start size some_below share overlapping entry with_byte entries same first_from find_string new_name or_else interned begin_bytes property_bytes end_bytes final_bytes reservation_bytes words_from header_words header_bytes value_bytes sum misfit_value zero_value accepts usable misfit_record misfit_room off_structure misfit_blob misfit_strings overfull first alone_rows blob_rows strings_rows some_invalid opening_rows opening_answer opened_record closed_record opening_bytes opening opening_blob begin_rows begin_answer begun_record begin begin_blob end_rows end_answer ended_record end end_blob place_of is_full number_of place_offset values_of added stored written property_record state_rows name_rows place_rows property_rows property_answer property property_blob property_strings used_strings finish_rows finish_answer finished_record finished_blob finish finish_blob from_big_endian number_at whole_at looks_back look_back is_known is_repeated boot boot_answer phandle_name phandle_value record_rows record_answer recorded phandle phandle_blob phandle_strings phandle_table misfit_phandles holds all_hold numbers in_node answers_in_node started_at over_words a b cases20
cases_hold = refl
