-- The refusal table: a call's answer is the first of its rows that holds, exactly, and no row has 3 or 4.
use mathlib.Core.Path.{◌≡◌, refl, sym, subst, ◌∙◌}
use mathlib.Core.Bool.{Bool, true, false, not, cond, ◌||◌}
use lib.Dec.{eqb}
use lib.ListN.{length}
use Rattle.std.specs.Prelude.{Ok, Err}
use Rattle.fdt_record.specs.declared.Error.{Error}
use Rattle.fdt_record.specs.declared.Outcome.{Outcome}
use Rattle.fdt_record.specs.Answers.{Answer, number_of, accepts}
use Rattle.fdt_record.specs.Rows.{first}
use Rattle.fdt_record.specs.Tests.{alone_rows, blob_rows, strings_rows}
use Rattle.fdt_record.proofs.Rows.{all_errors, of_error, first-errors, Exactly, exactly, first-append}
use Rattle.fdt_opening.specs.Opening.{opening_rows, opening_answer}
use Rattle.fdt_nodes.specs.Begin.{begin_rows, begin_answer}
use Rattle.fdt_nodes.specs.End.{end_rows, end_answer}
use Rattle.fdt_properties.specs.Property.{state_rows, name_rows, place_rows, property_rows, property_answer, property}
use Rattle.fdt_phandles.specs.Phandle.{phandle_name, phandle_value, record_rows, record_answer, recorded, phandle}
use Rattle.fdt_finish.specs.Boot.{boot_answer}
use Rattle.fdt_finish.specs.Finish.{finish_rows, finish_answer}
use Rattle.fdt_calls.specs.Calls.{Request, to_open, to_boot, to_begin, to_end, to_have, to_mark, to_finish, to_show, Desk, answer, rows, mark_answer}

-- the answer's number is neither 3 nor 4
abbrev neither : Answer → Bool
neither a = not (eqb (number_of a) 3 || eqb (number_of a) 4)

abbrev pub Neither34 : Answer → Type 0
Neither34 a = neither a ≡ true

-- the same of an error
abbrev other : Error → Bool
other e = neither (Err e)

-- no error of a call's rows has number 3 or 4
each : (c : Request) (s : Desk) → all_errors other (rows c s) ≡ true
unfolding rows all_errors alone_rows blob_rows strings_rows opening_rows begin_rows end_rows state_rows name_rows place_rows property_rows record_rows finish_rows
each (to_open numbers) s = refl
each (to_boot n) s = refl
each (to_begin name) s = refl
each (to_end handle) s = refl
each (to_have name v) s = refl
each (to_mark value) s = refl
each to_finish s = refl
each to_show s = refl

answer-upon : (b : Bool) (x y : Outcome (Unit {0})) → (cond b x y).answer ≡ cond b x.answer y.answer
answer-upon true x y = refl
answer-upon false x y = refl

pub first_row : (c : Request) (s : Desk) → answer c s ≡ first (rows c s)
unfolding answer rows opening_answer boot_answer begin_answer end_answer property_answer property record_answer phandle finish_answer first
first_row (to_open numbers) s = refl
first_row (to_boot n) s = refl
first_row (to_begin name) s = refl
first_row (to_end handle) s = refl
first_row (to_have name v) s = refl
first_row (to_mark value) s =
    answer-upon (accepts (mark_answer value s)) _ _
    ∙ sym (first-append (record_rows s.writer (length s.blob) s.strings s.phandles value) (property_rows (recorded s.writer) s.blob s.strings phandle_name (phandle_value value)))
first_row to_finish s = refl
first_row to_show s = refl

pub answers_exactly : (c : Request) (s : Desk) → Exactly (rows c s) (answer c s)
answers_exactly c s = subst (Exactly (rows c s)) (sym (first_row c s)) (exactly (rows c s))

-- an answer is neither if its error is
by_error : (a : Answer) → of_error other a ≡ true → Neither34 a
by_error (Ok tt) e = refl
by_error (Err error) e = e

pub never_given : (c : Request) (s : Desk) → Neither34 (answer c s)
never_given c s = subst Neither34 (sym (first_row c s)) (by_error (first (rows c s)) (first-errors other (rows c s) (each c s)))
