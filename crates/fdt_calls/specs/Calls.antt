-- The public calls, what each asks for, and what it answers and leaves: a call is given the newest record and the same buffers.
use Rattle.std.specs.Prelude.{List, [], ◌∷◌, ◌++◌, ℕ, length, set}
use Rattle.fdt_values.specs.Value.{Value, raw, cells, texts, value_bytes}
use Rattle.fdt_format.specs.Description.{◌≔◌}
use Rattle.fdt_format.specs.Events.{Event, begins, has, ends}
use Rattle.fdt_record.specs.declared.Record.{Record}
use Rattle.fdt_record.specs.Answers.{Answer, Done, upon}
use Rattle.fdt_record.specs.Rows.{Row}
use Rattle.fdt_record.specs.Tests.{alone_rows}
use Rattle.fdt_opening.specs.Opening as of_opening
use Rattle.fdt_nodes.specs.Begin as of_begin
use Rattle.fdt_nodes.specs.End as of_end
use Rattle.fdt_properties.specs.Property as of_property
use Rattle.fdt_phandles.specs.Phandle as of_phandle
use Rattle.fdt_finish.specs.Boot as of_boot
use Rattle.fdt_finish.specs.Finish as of_finish

-- the public calls, with what they are given besides the record and the buffers
pub data Call : Type 0 where
  new : Call
  new_with_mem_reserv : List ℕ → Call
  set_boot_cpuid_phys : ℕ → Call
  begin_node : List ℕ → Call
  end_node : ℕ → Call
  property : List ℕ → List ℕ → Call
  property_null : List ℕ → Call
  property_string : List ℕ → List ℕ → Call
  property_string_list : List ℕ → List ℕ → List ℕ → Call
  property_u32 : List ℕ → ℕ → Call
  property_u64 : List ℕ → ℕ → Call
  property_array_u32 : List ℕ → List ℕ → Call
  property_array_u64 : List ℕ → List ℕ → Call
  property_phandle : ℕ → Call
  finish : Call
  show : Call

-- what a call asks for: every kind of property call is the same request, with a value
pub data Request : Type 0 where
  to_open : List ℕ → Request
  to_boot : ℕ → Request
  to_begin : List ℕ → Request
  to_end : ℕ → Request
  to_have : List ℕ → Value → Request
  to_mark : ℕ → Request
  to_finish : Request
  to_show : Request

-- what each call asks for
unfoldable pub asks : Call → Request
asks new = to_open []
asks (new_with_mem_reserv numbers) = to_open numbers
asks (set_boot_cpuid_phys n) = to_boot n
asks (begin_node name) = to_begin name
asks (end_node handle) = to_end handle
asks (property name bytes) = to_have name (raw bytes)
asks (property_null name) = to_have name (raw [])
asks (property_string name string) = to_have name (texts string (length string ∷ []))
asks (property_string_list name joined lengths) = to_have name (texts joined lengths)
asks (property_u32 name n) = to_have name (cells 4 (n ∷ []))
asks (property_u64 name n) = to_have name (cells 8 (n ∷ []))
asks (property_array_u32 name numbers) = to_have name (cells 4 numbers)
asks (property_array_u64 name numbers) = to_have name (cells 8 numbers)
asks (property_phandle value) = to_mark value
asks finish = to_finish
asks show = to_show

-- the effect of a request, besides its answer and its bytes
pub data Effect : Type 0 where
  opens : Effect
  sets_boot : ℕ → Effect
  adds : Event → Effect
  records : ℕ → Effect
  no_effect : Effect

-- the effect of each request; a phandle's value is recorded before the call goes on as a property
unfoldable pub effect : Request → Effect
effect (to_open numbers) = opens
effect (to_boot n) = sets_boot n
effect (to_begin name) = adds (begins name)
effect (to_end handle) = adds ends
effect (to_have name v) = adds (has (name ≔ value_bytes v))
effect (to_mark value) = records value
effect to_finish = no_effect
effect to_show = no_effect

-- the newest record and the three buffers
pub record Desk : Type 0 where
  pub writer : Record
  pub blob : List ℕ
  pub strings : List ℕ
  pub phandles : List ℕ

-- a desk with another record, blob, strings or phandles, and the rest as it was
abbrev pub with_writer : Record → Desk → Desk
with_writer w s = record { writer = w; blob = s.blob; strings = s.strings; phandles = s.phandles }

abbrev pub with_blob : List ℕ → Desk → Desk
with_blob blob s = record { writer = s.writer; blob = blob; strings = s.strings; phandles = s.phandles }

abbrev pub with_strings : List ℕ → Desk → Desk
with_strings strings s = record { writer = s.writer; blob = s.blob; strings = strings; phandles = s.phandles }

abbrev pub with_phandles : List ℕ → Desk → Desk
with_phandles phandles s = record { writer = s.writer; blob = s.blob; strings = s.strings; phandles = phandles }

-- the answer; showing is never refused
unfoldable pub answer : Request → Desk → Answer
answer (to_open numbers) s = of_opening.opening_answer (length s.blob) (length s.strings) (length s.phandles) numbers
answer (to_boot n) s = of_boot.boot_answer s.writer
answer (to_begin name) s = of_begin.begin_answer s.writer (length s.blob) name
answer (to_end handle) s = of_end.end_answer s.writer (length s.blob) handle
answer (to_have name v) s = of_property.property_answer s.writer s.blob s.strings name v
answer (to_mark value) s = (of_phandle.phandle s.writer s.blob s.strings s.phandles value).answer
answer to_finish s = of_finish.finish_answer s.writer (length s.blob) s.strings
answer to_show s = Done

-- the tests of a call in the order of documents 01 and 02, each with the answer that it gets. A phandle call makes its own tests, and then, with
-- its value recorded, those of a property. Showing makes none.
unfoldable pub rows : Request → Desk → List Row
rows (to_open numbers) s = of_opening.opening_rows (length s.blob) (length s.strings) (length s.phandles) numbers
rows (to_boot n) s = alone_rows s.writer
rows (to_begin name) s = of_begin.begin_rows s.writer (length s.blob) name
rows (to_end handle) s = of_end.end_rows s.writer (length s.blob) handle
rows (to_have name v) s = of_property.property_rows s.writer s.blob s.strings name v
rows (to_mark value) s =
    of_phandle.record_rows s.writer (length s.blob) s.strings s.phandles value
    ++ of_property.property_rows (of_phandle.recorded s.writer) s.blob s.strings of_phandle.phandle_name (of_phandle.phandle_value value)
rows to_finish s = of_finish.finish_rows s.writer (length s.blob) s.strings
rows to_show s = []

-- the record that is returned, and the buffers afterwards
unfoldable pub after : Request → Desk → Desk
after (to_open numbers) s =
    with_writer (of_opening.opening (length s.blob) (length s.strings) (length s.phandles) numbers).after
    (with_blob (of_opening.opening_blob s.blob (length s.strings) (length s.phandles) numbers) s)
after (to_boot n) s = with_writer (of_boot.boot s.writer n).after s
after (to_begin name) s =
    with_writer (of_begin.begin s.writer s.blob name).after (with_blob (of_begin.begin_blob s.writer s.blob name) s)
after (to_end handle) s =
    with_writer (of_end.end s.writer s.blob handle).after (with_blob (of_end.end_blob s.writer s.blob handle) s)
after (to_have name v) s =
    with_writer (of_property.property s.writer s.blob s.strings name v).after
    (with_blob (of_property.property_blob s.writer s.blob s.strings name v)
    (with_strings (of_property.property_strings s.writer s.blob s.strings name v) s))
after (to_mark value) s =
    with_writer (of_phandle.phandle s.writer s.blob s.strings s.phandles value).after
    (with_blob (of_phandle.phandle_blob s.writer s.blob s.strings s.phandles value)
    (with_strings (of_phandle.phandle_strings s.writer s.blob s.strings s.phandles value)
    (with_phandles (of_phandle.phandle_table s.writer (length s.blob) s.strings s.phandles value) s)))
after to_finish s =
    with_writer (of_finish.finish s.writer (length s.blob) s.strings).after
    (with_blob (of_finish.finish_blob s.writer s.blob s.strings) s)
after to_show s = s

-- what a phandle call answers before its value is recorded
abbrev pub mark_answer : ℕ → Desk → Answer
mark_answer value s = of_phandle.record_answer s.writer (length s.blob) s.strings s.phandles value

-- the desk once a phandle's value is recorded
abbrev pub marked : Desk → ℕ → Desk
marked s value =
    with_writer (of_phandle.recorded s.writer) (with_phandles (set s.phandles s.writer.phandles_used value) s)

-- what a refused call leaves, by its effect: nothing is altered. A refused opening, which takes no record, returns the closed one.
-- The one exception is a phandle call that passed 13 and 16: its value stays recorded.
unfoldable pub left_by : Effect → Desk → Desk
left_by opens s = with_writer of_opening.closed_record s
left_by (sets_boot n) s = s
left_by (adds e) s = s
left_by (records value) s = upon (mark_answer value s) (marked s value) s
left_by no_effect s = s

-- what a refused call leaves
abbrev pub unaltered : Request → Desk → Desk
unaltered c s = left_by (effect c) s
