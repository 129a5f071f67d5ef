-- Document 01's empty run and its run with one node are runs that finish, and their blobs are its words: by computing them.
use mathlib.Core.Path.{◌≡◌, refl}
use mathlib.Core.List.{[]}
use Rattle.fdt_bytes.specs.BigEndian.{big_endian, cell_bytes}
use Rattle.fdt_bytes.specs.Padding.{padding, round_up, zeros, padded}
use Rattle.fdt_bytes.specs.Splice.{over, splice}
use Rattle.fdt_names.specs.Grammar.{all, in_two, matches}
use Rattle.fdt_names.specs.Names.{is, one_of, letter, digit, name_byte, node_byte, property_byte, unit_address, node_name, property_name, has_zero}
use Rattle.fdt_reserve.specs.Entry.{invalid}
use Rattle.fdt_reserve.specs.Overlap.{start, size, some_below, share, overlapping}
use Rattle.fdt_strings.specs.Entries.{entry, with_byte, entries, same, first_from, find_string}
use Rattle.fdt_strings.specs.Interned.{new_name, or_else, interned, number_of, values_of}
use Rattle.fdt_format.specs.Tokens.{begin_bytes, property_bytes, end_bytes, final_bytes}
use Rattle.fdt_header.specs.Header.{reservation_bytes, words_from, header_words, header_bytes}
use Rattle.fdt_values.specs.Value.{value_bytes, misfit_value, zero_value}
use Rattle.fdt_record.specs.Answers.{Done, accepts}
use Rattle.fdt_record.specs.Limits.{usable}
use Rattle.fdt_record.specs.Misfits.{misfit_record, misfit_room, off_structure, misfit_blob, misfit_strings, overfull}
use Rattle.fdt_record.specs.Rows.{first}
use Rattle.fdt_record.specs.Tests.{alone_rows, blob_rows, strings_rows}
use Rattle.fdt_opening.specs.Opening.{some_invalid, opening_rows, opening_answer, opened_record, closed_record, opening_bytes, opening, opening_blob}
use Rattle.fdt_nodes.specs.Begin.{begin_rows, begin_answer, begun_record, begin, begin_blob}
use Rattle.fdt_nodes.specs.End.{end_rows, end_answer, ended_record, end, end_blob}
use Rattle.fdt_properties.specs.Property.{place_of, is_known, is_full, place_offset, is_repeated, added, stored, written, property_record, state_rows, name_rows, place_rows, property_rows, property_answer, property, property_blob, property_strings}
use Rattle.fdt_finish.specs.Finish.{used_strings, finish_rows, finish_answer, finished_record, finished_blob, finish, finish_blob}
use Rattle.fdt_finish.specs.Shown.{showable, shown}
use Rattle.fdt_calls.specs.Calls.{asks, to_open, effect, answer, after}
use Rattle.fdt_promises.specs.Run.{runs, InRun, AllInRun, Run, all_ask, opened_desk, desk, Finishes, blob}
use Rattle.fdt_promises.specs.Examples.{dirty, lent_desk, empty_calls, empty_words, node_calls, node_words}

pub lent_opens : answer (to_open []) lent_desk ≡ Done
unfolding answer lent_desk dirty some_invalid some_below overlapping share overfull usable opening_rows opening_answer opened_record first
lent_opens = refl

unfoldable pub empty_run : Run
unfolding AllInRun all_ask empty_calls
empty_run = record { before = lent_desk; numbers = []; calls = empty_calls; opened = lent_opens; between = tt }

unfoldable pub node_run : Run
unfolding AllInRun InRun all_ask asks effect node_calls
node_run = record { before = lent_desk; numbers = []; calls = node_calls; opened = lent_opens; between = (tt, (tt, (tt, tt))) }

-- both finish, and show their blob
pub examples-shown : Finishes empty_run × (blob empty_run ≡ cell_bytes 4 empty_words) × Finishes node_run × (blob node_run ≡ cell_bytes 4 node_words)
unfolding empty_run node_run Finishes blob desk opened_desk runs all_ask asks answer after lent_desk empty_calls empty_words node_calls node_words dirty big_endian cell_bytes padding round_up zeros padded over splice all in_two matches is one_of letter digit name_byte node_byte property_byte unit_address node_name property_name has_zero invalid start size some_below share overlapping entry with_byte entries same first_from find_string new_name or_else interned begin_bytes property_bytes end_bytes final_bytes reservation_bytes words_from header_words header_bytes value_bytes misfit_value zero_value accepts usable misfit_record misfit_room off_structure misfit_blob misfit_strings overfull first alone_rows blob_rows strings_rows some_invalid opening_rows opening_answer opened_record closed_record opening_bytes opening opening_blob begin_rows begin_answer begun_record begin begin_blob end_rows end_answer ended_record end end_blob place_of is_known is_full number_of place_offset values_of added stored written property_record state_rows name_rows is_repeated place_rows property_rows property_answer property property_blob property_strings used_strings finish_rows finish_answer finished_record finished_blob finish finish_blob showable shown
examples-shown = (refl, refl, refl, refl)
