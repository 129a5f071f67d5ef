-- A call that was made is answered by its number too, if the number of its answer is returned. 0 is the number of acceptance alone.
use mathlib.Core.Path.{◌≡◌, refl, sym, ap, ◌∙◌}
use mathlib.Core.Bool.{Bool, true, false, cond}
use mathlib.Core.List.{List, [], ◌∷◌}
use Prim.Native.Nat.{ℕ, zero, suc, ◌+◌}
use lib.Dec.{eqb, eqb-suc-zero}
use lib.ListN.{length, take}
use Rattle.std.specs.Prelude.{Result, Ok, Err, IfOk}
use Rattle.fdt_record.specs.declared.Error.{Error}
use Rattle.fdt_record.specs.Answers.{Answer, Done, answer_of, number_of, accepts}
use Rattle.fdt_record.proofs.Answers.{accepts-done, upon-err, upon-refused}
use Rattle.fdt_nodes.specs.declared.FdtWriterNode.{FdtWriterNode}
use Rattle.fdt_nodes.specs.Begin.{begin_answer}
use Rattle.fdt_finish.specs.Shown.{showable, shown}
use Rattle.fdt_calls.specs.Calls.{Call, begin_node, Desk, asks, answer}
use Rattle.fdt_calls.specs.Called.{Called, handle_of, shown_part}
use Rattle.fdt_calls.specs.Made.{Made, handle_number, shown_length}

pub by_number : {c : Call} {s : Desk} {a : Answer} {n : ℕ} {t : Desk} → Called c s a t → n ≡ number_of a → Made c s n t
by_number p e = record { numbered = e ∙ ap number_of p.answered; leaves = p.leaves }

pub one-outcome : {c : Call} {s : Desk} {m n : ℕ} {t u : Desk} → Made c s m t → Made c s n u → (m ≡ n) × (t ≡ u)
one-outcome p q = (p.numbered ∙ sym q.numbered, p.leaves ∙ sym q.leaves)

-- a call that returned 0 was accepted
pub accepted_at_0 : {c : Call} {s t : Desk} → Made c s 0 t → answer (asks c) s ≡ Done
unfolding accepts
accepted_at_0 {c} {s} p = accepts-done (answer (asks c) s) (ap (λ (n : ℕ). eqb n 0) (sym p.numbered))

not_0 : (n : ℕ) → (n ≡ 0 → ⊥) → eqb n 0 ≡ false
not_0 zero other = absurd (other refl)
not_0 (suc n) other = eqb-suc-zero n

-- and one that returned another number was refused
pub refused_at-other : {c : Call} {s t : Desk} {n : ℕ} → Made c s n t → (n ≡ 0 → ⊥) → accepts (answer (asks c) s) ≡ false
unfolding accepts
refused_at-other {c} {s} p other = not_0 (number_of (answer (asks c) s)) (λ e. other (p.numbered ∙ e))

-- the handle of a begin's answer; 0 if it is refused
abbrev pub handle_or_0 : Result FdtWriterNode Error → ℕ
handle_or_0 (Ok handle) = handle.0
handle_or_0 (Err error) = 0

-- it is the number of the call's handle
pub begun_handle : {name : List ℕ} {s t : Desk} (r : Result FdtWriterNode Error) → Called (begin_node name) s (answer_of r) t → IfOk r (λ handle. handle ≡ handle_of s name) → handle_or_0 r ≡ handle_number s name
unfolding asks answer
begun_handle (Ok handle) p h = ap (λ (x : FdtWriterNode). x.0) h
begun_handle {name} {s} (Err error) p h = sym (upon-err (s.writer.node_depth + 1) 0 (sym p.answered))

-- a refused begin gives the handle 0
pub refused_handle : {name : List ℕ} {s t : Desk} {n : ℕ} → Made (begin_node name) s n t → (n ≡ 0 → ⊥) → handle_number s name ≡ 0
unfolding asks answer accepts
refused_handle {name} {s} p other = upon-refused (begin_answer s.writer (length s.blob) name) (s.writer.node_depth + 1) 0 (refused_at-other p other)

take_front : (n : ℕ) (l : List ℕ) → take n l ≡ take (length (take n l)) l
take_front zero l = refl
take_front (suc n) [] = refl
take_front (suc n) (x ∷ l) = ap (λ (m : List ℕ). x ∷ m) (take_front n l)

-- the part that is shown is the front of the blob
pub front_shown : (s : Desk) → shown_part s ≡ take (shown_length s) s.blob
unfolding shown
front_shown s = by (showable s.writer (length s.blob))
  where
    by : (b : Bool) → cond b (take s.writer.blob_used s.blob) [] ≡ take (length (cond b (take s.writer.blob_used s.blob) [])) s.blob
    by true = take_front s.writer.blob_used s.blob
    by false = refl
