-- What a refused call leaves on the desk: nothing new, except a phandle that passed 13 and 16.
use mathlib.Core.Path.{◌≡◌, refl, sym, ap, ◌∙◌}
use mathlib.Core.Bool.{Bool, true, false}
use mathlib.Core.List.{List}
use Prim.Native.Nat.{ℕ}
use Rattle.fdt_values.specs.Value.{Value}
use Rattle.fdt_record.specs.declared.Outcome.{Outcome}
use Rattle.fdt_record.specs.Answers.{Done, accepts, upon}
use Rattle.fdt_record.proofs.Answers.{accepts-done, upon-done, upon-refused}
use Rattle.fdt_opening.specs.Opening.{opening, opening_blob}
use Rattle.fdt_nodes.specs.Begin.{begin, begin_blob}
use Rattle.fdt_nodes.specs.End.{end, end_blob}
use Rattle.fdt_properties.specs.Property.{property, property_blob, property_strings}
use Rattle.fdt_phandles.specs.Phandle.{phandle_name, phandle_value, phandle, phandle_blob, phandle_strings, phandle_table}
use Rattle.fdt_finish.specs.Boot.{boot}
use Rattle.fdt_finish.specs.Finish.{finish, finish_blob}
use Rattle.fdt_calls.specs.Calls.{Request, to_open, to_boot, to_begin, to_end, to_have, to_mark, to_finish, to_show, effect, Desk, answer, after, mark_answer, marked, left_by, unaltered}
use Rattle.fdt_calls.proofs.Desks.{same-desk}

-- a phandle that passed 13 and 16 goes on as a property
module _ (s : Desk) (value : ℕ) (e : mark_answer value s ≡ Done) where
  pub marked-answer : answer (to_mark value) s ≡ answer (to_have phandle_name (phandle_value value)) (marked s value)
  unfolding answer phandle property
  marked-answer = ap (λ (o : Outcome (Unit {0})). o.answer) (upon-done _ _ _ e)

  pub marked-after : after (to_mark value) s ≡ after (to_have phandle_name (phandle_value value)) (marked s value)
  unfolding after phandle phandle_blob phandle_strings phandle_table
  marked-after = same-desk (ap (λ (o : Outcome (Unit {0})). o.after) (upon-done _ _ _ e)) (upon-done _ _ _ e) (upon-done _ _ _ e) (upon-done _ _ _ e)

-- a phandle that is refused before its value is recorded is refused
pub refused_mark : (s : Desk) (value : ℕ) → accepts (mark_answer value s) ≡ false → accepts (answer (to_mark value) s) ≡ false
unfolding answer phandle
refused_mark s value e = ap (λ (o : Outcome (Unit {0})). accepts o.answer) (upon-refused _ _ _ e) ∙ e

-- a refused property alters nothing
unhad_after : (s : Desk) (name : List ℕ) (v : Value) → accepts (answer (to_have name v) s) ≡ false → after (to_have name v) s ≡ s
unfolding answer after property property_blob property_strings
unhad_after s name v e = same-desk (upon-refused _ _ _ e) (upon-refused _ _ _ e) (upon-refused _ _ _ e) refl

-- a refused phandle call that passed 13 and 16 leaves its value recorded
unmarked_after : (s : Desk) (value : ℕ) → accepts (answer (to_mark value) s) ≡ false → after (to_mark value) s ≡ upon (mark_answer value s) (marked s value) s
unfolding after phandle phandle_blob phandle_strings phandle_table
unmarked_after s value e = go (accepts (mark_answer value s)) refl
  where
    go : (b : Bool) → accepts (mark_answer value s) ≡ b → after (to_mark value) s ≡ upon (mark_answer value s) (marked s value) s
    go true t =
        let d = accepts-done _ t in
        marked-after s value d
        ∙ unhad_after (marked s value) phandle_name (phandle_value value) (sym (ap accepts (marked-answer s value d)) ∙ e)
        ∙ sym (upon-done _ _ _ d)
    go false t = same-desk (ap (λ (o : Outcome (Unit {0})). o.after) (upon-refused _ _ _ t)) (upon-refused _ _ _ t) (upon-refused _ _ _ t) (upon-refused _ _ _ t) ∙ sym (upon-refused _ _ _ t)

-- a refused call alters nothing, except what `unaltered` names
pub refused-after : (s : Desk) (c : Request) → accepts (answer c s) ≡ false → after c s ≡ unaltered c s
unfolding answer after effect left_by opening opening_blob boot begin begin_blob end end_blob finish finish_blob
refused-after s (to_open numbers) e = same-desk (upon-refused _ _ _ e) (upon-refused _ _ _ e) refl refl
refused-after s (to_boot n) e = same-desk (upon-refused _ _ _ e) refl refl refl
refused-after s (to_begin name) e = same-desk (upon-refused _ _ _ e) (upon-refused _ _ _ e) refl refl
refused-after s (to_end handle) e = same-desk (upon-refused _ _ _ e) (upon-refused _ _ _ e) refl refl
refused-after s (to_have name v) e = unhad_after s name v e
refused-after s (to_mark value) e = unmarked_after s value e
refused-after s to_finish e = same-desk (upon-refused _ _ _ e) (upon-refused _ _ _ e) refl refl
refused-after s to_show e = refl
