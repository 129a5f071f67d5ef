-- What is promised about the writer. Read this file first: it only states the promises, and the proofs are in the files beside it.
-- The calls, their tests, answers and effects are defined in fdt_calls, specs/Calls.antt; a run in specs/Run.antt.
use mathlib.Core.Path.{◌≡◌, refl, ◌∙◌}
use mathlib.Core.Bool.{true, false, ◌&&◌, ◌||◌}
use mathlib.Core.List.{List, [], ◌++◌, Memᴰ}
use mathlib.Core.Logic.{◌↔◌}
use mathlib.Core.Option.{some}
use Prim.Native.Nat.{ℕ, ◌+◌, ◌/◌, ◌≤◌, ◌<◌, ◌^◌}
use lib.Dec.{eqb}
use lib.ListN.{length, take}
use Rattle.fdt_bytes.specs.BigEndian.{word_at, cell_bytes}
use Rattle.fdt_bytes.specs.Splice.{splice}
use Rattle.fdt_strings.specs.Entries.{entry, joined}
use Rattle.fdt_strings.proofs.Entries.{PlainNames}
use Rattle.fdt_values.specs.Value.{Value, value_bytes}
use Rattle.fdt_format.specs.Blanks.{Piece, events_of, spaced_blob, words_four}
use Rattle.fdt_format.specs.Blob.{names_of, events_size, blob_of, WellFormed}
use Rattle.fdt_format.specs.declared.Areas.{Areas}
use Rattle.fdt_format.specs.declared.State.{State}
use Rattle.fdt_format.specs.Description.{Property, ◌≔◌, Nodes, Description}
use Rattle.fdt_format.specs.Distinct.{Distinct, PropertiesOf, DistinctNames}
use Rattle.fdt_format.specs.Events.{Event, events}
use Rattle.fdt_format.specs.Foreign.{AllRead, foreign}
use Rattle.fdt_header.specs.Header.{structure_start}
use Rattle.fdt_format.specs.Reading.{areas_of, reading}
use Rattle.fdt_format.specs.LookBack.{look_back}
use Rattle.fdt_format.specs.Step.{whole_at, past}
use Rattle.fdt_format.specs.Tokens.{property_size, skip_token}
use Rattle.fdt_format.specs.Walk.{walk, walk_start, TokensAt}
use Rattle.fdt_format.proofs.Blanked.{read_spaced, read_overwritten}
use Rattle.fdt_format.proofs.Distinct.{one_value}
use Rattle.fdt_format.proofs.Foreign.{foreign-read}
use Rattle.fdt_format.proofs.LookBack.{look_step}
use Rattle.fdt_format.proofs.ReadBack.{read-blob}
use Rattle.fdt_format.proofs.Nested.{tokens_at}
use Rattle.fdt_format.proofs.Strings.{AllHas, names_once}
use Rattle.fdt_format.proofs.Walks.{walk_skip}
use Rattle.fdt_walk.specs.declared.Fault.{Fault}
use Rattle.fdt_walk.specs.Reached.{Reached, Meets}
use Rattle.fdt_walk.specs.ReaderWalk.{reader_walk}
use Rattle.fdt_walk.proofs.Reached.{no_fault_at_4}
use Rattle.fdt_walk.proofs.Walked.{reader_skip}
use Rattle.fdt_reader.specs.Reader.{ReadAnswer}
use Rattle.fdt_reader.specs.Numbers.{Tells}
use Rattle.fdt_reader.specs.Reader.{Read}
use Rattle.std.specs.Prelude.{Err}
use Rattle.fdt_record.specs.declared.Error.{Error}
use Rattle.fdt_record.specs.declared.Error.TheVariants.{Misfit, DuplicateProperty}
use Rattle.fdt_record.specs.Answers.{Answer, Done, number_of, accepts}
use Rattle.fdt_record.specs.Rows.{first}
use Rattle.fdt_record.proofs.Rows.{NoneHolds, Given}
use Rattle.fdt_opening.specs.Opening.{count}
use Rattle.fdt_properties.specs.Property.{place_of, is_repeated}
use Rattle.fdt_phandles.specs.Phandle.{phandle_name, phandle_value}
use Rattle.fdt_calls.specs.Calls.{Call, begin_node, finish, property, property_string, property_u32, property_array_u32, property_array_u64, property_phandle, asks, to_have, to_mark, Desk, answer, rows, after, mark_answer, marked, unaltered}
use Rattle.fdt_calls.specs.Called.{Called, shown_part}
use Rattle.fdt_calls.specs.Made.{Made, handle_number, shown_length}
use Rattle.fdt_calls.proofs.Made.{by_number, refused_at-other, refused_handle, front_shown, one-outcome as same_outcome}
use Rattle.fdt_calls.proofs.OneOutcome.{one_called}
use Rattle.fdt_calls.proofs.Refused.{refused-after}
use Rattle.fdt_calls.proofs.Table.{Neither34, first_row, answers_exactly, never_given}
use Rattle.fdt_promises.specs.Effects.{own, own_entry, Changed, Alike}
use Rattle.fdt_promises.specs.Run.{tells, reservations_of, ended_of, Holds, FitDesk, Misgiven, Run, opened_desk, desk, history, events_in, boot_in, marks_in, description, Finishes, blob, Describes, OneMore}
use Rattle.fdt_promises.specs.ByNumber.{NumberedRun, OfRun, numbers_in, DescribedBy}
use Rattle.fdt_promises.specs.OpenNode.{open_in, open_names, rows_before20}
use Rattle.fdt_promises.specs.Cases20.{cases20}
use Rattle.fdt_promises.specs.ReadBack.{ReadBack}
use Rattle.fdt_promises.specs.Examples.{empty_words, node_words}
use Rattle.fdt_promises.specs.Starred.{all_hold, starred}
use Rattle.fdt_promises.proofs.ByNumber.{own_run_lem, opened_is, left_is, returned_is, finishes, shows-blob, same_by_number, by_its_numbers}
use Rattle.fdt_promises.proofs.OpenNode.{left_open}
use Rattle.fdt_promises.proofs.OwnBytes.{recorded-own, only-own}
use Rattle.fdt_promises.proofs.PastUsable.{past-usable, shown-usable}
use Rattle.fdt_promises.proofs.Described.{run_holds, run_fits, run_given, run_repeated, run_refused, run_marked, run_shown, run_distinct, run_length, run_read, same_runs, same-history}
use Rattle.fdt_promises.proofs.Examples.{empty_run, node_run, examples-shown}
use Rattle.fdt_promises.proofs.Idle.{same_told, same_kinds, kinds_as_bytes, same-phandle, one_more}
use Rattle.fdt_promises.proofs.ReadBack.{none_written, read_back}
use Rattle.fdt_promises.proofs.Starred.{starred_hold}
use Rattle.fdt_promises.proofs.Refused20.{recorded_at_20 as past-20}
use Rattle.fdt_promises.proofs.Cases20.{cases_hold}

-- ---- demand 1: any call with any arguments, over any record and buffers of any size

-- Every method of `FdtWriter` states `Called` of its own call. Two results that satisfy it are equal: the answer, the record and
-- every byte and entry lent.
pub one-outcome : {c : Call} {s : Desk} {a b : Answer} {t u : Desk} → Called c s a t → Called c s b u → (a ≡ b) × (t ≡ u)
one-outcome = one_called

-- What a call cannot serve gets the refusal of document 01's table, or 20 of document 02: the answer is the first of the call's rows that holds.
pub answer_by_table : (c : Call) (s : Desk) → answer (asks c) s ≡ first (rows (asks c) s)
answer_by_table c s = first_row (asks c) s

-- A call is accepted exactly when no row holds.
pub accepted_exactly : (c : Call) (s : Desk) → (answer (asks c) s ≡ Done) ↔ NoneHolds (rows (asks c) s)
accepted_exactly c s = (answers_exactly (asks c) s).accepted

-- It gets a refusal exactly when a row with that refusal holds and no earlier row does.
pub refused_exactly : (c : Call) (s : Desk) (error : Error) → (answer (asks c) s ≡ Err error) ↔ Given (rows (asks c) s) error
refused_exactly c s = (answers_exactly (asks c) s).refused

-- 3 and 4 are never given.
pub never_3_or_4 : (c : Call) (s : Desk) → Neither34 (answer (asks c) s)
never_3_or_4 c s = never_given (asks c) s

-- A refused call alters nothing, except in the one case that `unaltered` names.
pub demand_1 : (c : Call) (s : Desk) → accepts (answer (asks c) s) ≡ false → after (asks c) s ≡ unaltered (asks c) s
demand_1 c s = refused-after s (asks c)

-- An accepted call changes only its own bytes and entries, all of them within the usable lengths.
pub own-bytes_alone : (c : Call) (s : Desk) → answer (asks c) s ≡ Done → Changed (own (asks c) s) s (after (asks c) s)
own-bytes_alone c s = only-own (asks c) s

-- The one exception too: recording a phandle changes only one entry of the table, within its usable length.
pub own-entry_alone : (s : Desk) (value : ℕ) → mark_answer value s ≡ Done → Changed (record { blob = []; strings = []; phandles = own_entry s }) s (marked s value)
own-entry_alone = recorded-own

-- Nothing past the usable lengths makes a difference: neither to the answer, nor to the record and the usable parts afterwards,
pub usable_parts_alone : (c : Call) (s t : Desk) → Alike s t → (answer (asks c) s ≡ answer (asks c) t) × Alike (after (asks c) s) (after (asks c) t)
usable_parts_alone c s t a = past-usable s t a (asks c)

-- nor to what is shown.
pub shown_of_usable : (s t : Desk) → Alike s t → shown_part s ≡ shown_part t
shown_of_usable = shown-usable

-- ---- after every call of a run, until it is finished

-- The used part of each buffer and every figure of the record are counted from the accepted calls.
pub after_every_call : (r : Run) → (desk r).writer.finished ≡ false → Holds r.numbers (events_in r) (boot_in r) (marks_in r) (desk r)
after_every_call = run_holds

-- The record fits the run's own buffers: no test of misfit 17 finds a fault in them.
pub never_misfit : (r : Run) → (desk r).writer.finished ≡ false → FitDesk (desk r)
never_misfit = run_fits

-- So a call is refused 17 exactly when its own arguments do not fit together: an odd count of reservation numbers, or string-list
-- lengths that do not sum to the bytes given.
pub misfit_of_arguments : (r : Run) → (desk r).writer.finished ≡ false → (c : Call) → (answer (asks c) (desk r) ≡ Err Misfit) ↔ Misgiven c
misfit_of_arguments = run_given

-- No name is in the strings twice.
pub each_name_once : (r : Run) → Distinct (names_of (events_in r))
each_name_once r = names_once (events_in r)

-- ---- demands 2 and 3: the finished blob

-- After an accepted finish, the shown blob is exactly the bytes of what the run describes, in which no node has two properties of one
-- name.
pub blob_is_description : (r : Run) → Finishes r → (d : Description) × Describes r d × (blob r ≡ blob_of d)
blob_is_description = run_shown

-- Its length is 56, plus 16 for each reservation, plus the sizes of the accepted calls, plus 4 for the last word, plus the strings.
pub length_of_blob : (r : Run) → Finishes r → length (blob r) ≡ structure_start (count r.numbers) + events_size (events_in r) + 4 + length (joined (names_of (events_in r)))
length_of_blob = run_length

-- Reading the shown blob returns the description.
pub reading_returns : (r : Run) → Finishes r → reading (blob r) ≡ description r
reading_returns = run_read

-- The same holds for every description that the format can hold, not only for those of runs.
pub reading_of_any : (d : Description) → WellFormed d → reading (blob_of d) ≡ some d
reading_of_any = read-blob

-- `read` of fdt_reader states `Read` of its blob, its list before and after, and its answer. It reads the shown blob: what it
-- answers, and the entries that it writes to a list, are counted from the opening and the accepted calls. If the list has too
-- little room, it refuses 30 and writes nothing.
pub finished_is_read : (r : Run) → Finishes r → {before after : List ℕ} {a : ReadAnswer} → Read (blob r) before after a → ReadBack r before after a
finished_is_read = read_back

-- Demand 3. Two finished runs show the same bytes exactly when they describe the same thing, in which no node has two properties of one
-- name.
pub demand_3 : (r q : Run) → Finishes r → Finishes q → (blob r ≡ blob q) ↔ ((d : Description) × Describes r d × Describes q d)
demand_3 = same_runs

-- The description depends only on the reservations, the boot number and the events that the accepted calls add: the sizes of the
-- buffers and what they held before make no difference.
pub told_alone : (r q : Run) → reservations_of r.numbers ≡ reservations_of q.numbers → boot_in r ≡ boot_in q → events_in r ≡ events_in q → description r ≡ description q
told_alone = same_told

-- So it depends only on the opening's numbers and the accepted calls.
pub accepted-calls_alone : (r q : Run) → r.numbers ≡ q.numbers → history r ≡ history q → description r ≡ description q
accepted-calls_alone = same-history

-- The kind of property call makes no difference, if it writes the same bytes.
pub kind_makes_no_difference : (name : List ℕ) (v u : Value) → value_bytes v ≡ value_bytes u → tells (to_have name v) ≡ tells (to_have name u)
kind_makes_no_difference = same_kinds

-- Numbers are written big-endian, one after the other, and a string with its 0.
pub kinds_by_bytes : (name : List ℕ) →
    ((numbers : List ℕ) → tells (asks (property_array_u32 name numbers)) ≡ tells (asks (property name (cell_bytes 4 numbers))))
    × ((numbers : List ℕ) → tells (asks (property_array_u64 name numbers)) ≡ tells (asks (property name (cell_bytes 8 numbers))))
    × ((string : List ℕ) → tells (asks (property_string name string)) ≡ tells (asks (property name (entry string))))
kinds_by_bytes = kinds_as_bytes

-- A phandle given by its own call adds the same event as a u32 property `phandle` with that value.
pub phandle_as_u32 : (value : ℕ) → tells (asks (property_phandle value)) ≡ tells (asks (property_u32 phandle_name value))
phandle_as_u32 = same-phandle

-- One more call makes no difference, if it shows the blob, or if it is refused and records no phandle.
pub idle_call : (r q : Run) → OneMore r q → description q ≡ description r
idle_call = one_more

-- ---- no property twice in a node (document 02, request 4/14)

-- What the open node has, by `open_in`: nodes that are begun and ended leave it as it was.
pub nodes-leave_open : (es : List Event) (f : Nodes) → open_in (es ++ events f []) ≡ open_in es
nodes-leave_open = left_open

-- In every run, where no node was ended last, row 20 holds exactly when the open node already has a property of the name.
pub row_20 : (r : Run) → (desk r).writer.finished ≡ false → ended_of (events_in r) ≡ false → (name : List ℕ)
    → (is_repeated (desk r).writer (desk r).blob (place_of (desk r).writer (desk r).strings name) ≡ true) ↔ Memᴰ name (open_names (events_in r))
row_20 = run_repeated

-- So a property is refused 20 exactly when no test before 20 refuses it and the open node already has a property of its name.
pub refused_20 : (r : Run) → (desk r).writer.finished ≡ false → (name : List ℕ) (v : Value)
    → (answer (to_have name v) (desk r) ≡ Err DuplicateProperty) ↔ (NoneHolds (rows_before20 name v (desk r)) × Memᴰ name (open_names (events_in r)))
refused_20 = run_refused

-- The same of a phandle that passed its own tests.
pub phandle-refused_20 : (r : Run) → (desk r).writer.finished ≡ false → (value : ℕ)
    → (answer (to_mark value) (desk r) ≡ Err DuplicateProperty)
    ↔ ((mark_answer value (desk r) ≡ Done) × NoneHolds (rows_before20 phandle_name (phandle_value value) (marked (desk r) value)) × Memᴰ phandle_name (open_names (events_in r)))
phandle-refused_20 = run_marked

-- Its value is then recorded, over any record and buffers.
pub recorded_at_20 : (s : Desk) (value : ℕ) → answer (asks (property_phandle value)) s ≡ Err DuplicateProperty → after (asks (property_phandle value)) s ≡ marked s value
unfolding asks
recorded_at_20 s value = past-20 value s

-- Over any bytes, the look back is its first property and the look back after it: the bound in its definition decides nothing.
pub look_back_by_steps : (b : List ℕ) (end offset at : ℕ)
    → look_back b end offset at ≡ (whole_at b end at && (eqb (word_at b (at + 8)) offset || look_back b end offset (at + property_size (word_at b (at + 4)))))
look_back_by_steps = look_step

-- In what a finished run describes, no node has two properties of one name.
pub distinct-names : (r : Run) → Finishes r → {d : Description} → description r ≡ some d → DistinctNames d.nodes
distinct-names = run_distinct

-- So two programs that look for a name in a node of its blob cannot find different values.
pub one_value_each : (r : Run) → Finishes r → {d : Description} → description r ≡ some d → {ps : List Property} → PropertiesOf ps d.nodes
    → {name v u : List ℕ} → Memᴰ (name ≔ v) ps → Memᴰ (name ≔ u) ps → v ≡ u
one_value_each r f e p m k = one_value (run_distinct r f e) p m k

-- The request's cases, in one table: what each call of a list answers.
pub cases_of_20 : all_hold cases20 ≡ true
cases_of_20 = cases_hold

-- ---- answers by number, on a writer that is returned or lent (document 02, request 5/14)

-- The calls of fdt_numbered state `Made`, each of its own call and of the writer that it returns; those of export_writer state it of the
-- writer that they leave in the lent one. Two results that satisfy it are equal: the number, the record and every byte and entry lent.
pub one-outcome_by_number : {c : Call} {s : Desk} {m n : ℕ} {t u : Desk} → Made c s m t → Made c s n u → (m ≡ n) × (t ≡ u)
one-outcome_by_number p q = same_outcome p q

-- A call of `FdtWriter`, or of fdt_face in place, is made so too, with the number of its answer.
pub as_called : {c : Call} {s : Desk} {a : Answer} {t : Desk} → Called c s a t → Made c s (number_of a) t
as_called p = by_number p refl

-- A call that does not return 0 alters neither the lent writer nor a buffer, except in the cases that `unaltered` names: a refused
-- opening leaves the closed record, and a phandle that passed 13 and 16 stays recorded.
pub demand_1_by_number : {c : Call} {s : Desk} {n : ℕ} {t : Desk} → Made c s n t → (n ≡ 0 → ⊥) → t ≡ unaltered (asks c) s
demand_1_by_number {c} {s} p other = p.leaves ∙ refused-after s (asks c) (refused_at-other p other)

-- A begin that does not return 0 gives the handle 0.
pub no_handle : {name : List ℕ} {s : Desk} {n : ℕ} {t : Desk} → Made (begin_node name) s n t → (n ≡ 0 → ⊥) → handle_number s name ≡ 0
no_handle p other = refused_handle p other

-- What is shown is the front of the blob, as long as the showing call says.
pub shown_in_front : (s : Desk) → shown_part s ≡ take (shown_length s) s.blob
shown_in_front s = front_shown s

-- A run of such calls is the run of the same calls: after the opening and after the last call it has the same desk, and the numbers
-- that it returned are those of the run's answers. So what is promised of every run holds of it.
pub run_by_number : (f : NumberedRun) → (r : Run) × OfRun f r × (f.opened ≡ opened_desk r) × (f.left ≡ desk r) × (f.returned ≡ numbers_in r)
run_by_number f = let (r, e) = own_run_lem f in (r, e, opened_is f r e, left_is f r e, returned_is f r e)

-- Every run is such a run.
pub numbers_of_run : (r : Run) → (f : NumberedRun) × OfRun f r
numbers_of_run r = by_its_numbers r

-- A finish that returns 0 finishes the run, and what is shown then is the run's blob.
pub finish_by_number : (f : NumberedRun) (r : Run) → OfRun f r → {u : Desk} → Made finish f.left 0 u → Finishes r × (shown_part u ≡ blob r)
finish_by_number f r e finished = (finishes f r e finished, shows-blob f r e finished)

-- Demand 3 through the face: two runs by numbers that are finished show the same bytes exactly when their calls describe the same thing.
pub demand_3_by_number : (f g : NumberedRun) {u v : Desk} → Made finish f.left 0 u → Made finish g.left 0 v
    → (shown_part u ≡ shown_part v) ↔ ((d : Description) × DescribedBy f d × DescribedBy g d)
demand_3_by_number f g finished also = same_by_number f g finished also

-- ---- words 4, which describe nothing (document 02, request 3/14)

-- In any blob, at any state with a whole word 4 inside the structure, reading and reader go on as from 4 bytes further.
pub word_4_skipped : (b : List ℕ) (a : Areas) (s : State) → s.at + 4 ≤ a.structure_end → word_at b s.at ≡ skip_token
    → (walk b a s ≡ walk b a (past s)) × (reader_walk b a s ≡ reader_walk b a (past s))
word_4_skipped b a s h w = (walk_skip b a s h w, reader_skip b a s h w)

-- So a reader never meets a fault at a word 4,
pub no_fault_at_word_4 : (b : List ℕ) (a : Areas) {f : Fault} → Meets b a f → f.place + 4 ≤ a.structure_end → word_at b f.place ≡ skip_token → ⊥
no_fault_at_word_4 = no_fault_at_4

-- and at the place of every entry that it lists is the entry's token.
pub token_at_its_place : {b before after : List ℕ} {r : ReadAnswer} {d : Description} (t : Tells b before after r d) → TokensAt b t.entries
token_at_its_place {b} t = tokens_at b (areas_of b) (walk_start (areas_of b)) t.entries t.walked

-- A description is read, wherever words 4 are among the tokens of its blob, and whatever names its strings have besides, for example
-- those of properties that were blanked.
pub words_4_anywhere : (d : Description) (names : List (List ℕ)) (ps : List Piece) → WellFormed d → events_of ps ≡ events d.nodes []
    → PlainNames names → AllHas names (events_of ps) → length (spaced_blob d names ps) < 2 ^ 32
    → reading (spaced_blob d names ps) ≡ some d
words_4_anywhere = read_spaced

-- If words 4 are written over some tokens of its blob, for example over those of a property or of a node, the nodes that the others
-- describe are read.
pub words_4_over : (d : Description) → WellFormed d → (left : Nodes) (before out after : List Event)
    → events d.nodes [] ≡ before ++ (out ++ after) → events left [] ≡ before ++ after
    → reading (splice (structure_start (length d.reservations) + events_size before) (words_four (events_size out / 4)) (blob_of d))
    ≡ some (record { reservations = d.reservations; boot = d.boot; nodes = left })
words_4_over = read_overwritten

-- A finished run has none: no state that a reader reaches in its blob is at a word 4.
pub no_word_4 : (r : Run) → Finishes r → {s : State} → Reached (blob r) (areas_of (blob r)) s
    → s.at + 4 ≤ (areas_of (blob r)).structure_end → word_at (blob r) s.at ≡ skip_token → ⊥
no_word_4 = none_written

-- ---- document 01's cases

-- Its starred cases, in one table.
pub starred_cases : all_hold starred ≡ true
starred_cases = starred_hold

-- Its empty run and its run with one node, over buffers with earlier contents: both finish and show its words.
pub empty_and_node : Finishes empty_run × (blob empty_run ≡ cell_bytes 4 empty_words) × Finishes node_run × (blob node_run ≡ cell_bytes 4 node_words)
empty_and_node = examples-shown

-- Blobs that our writer does not make, in one table: each is read or refused as document 01 and request 3/14 say.
pub foreign_blobs : AllRead foreign
foreign_blobs = foreign-read
