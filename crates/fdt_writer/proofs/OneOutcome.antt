-- Two results that satisfy a method's statement are equal: the answer, the writer, the handle and every byte and entry lent.
-- A statement that holds for any buffers that the method is not lent is used here with some of them.
use mathlib.Core.Path.{◌≡◌, sym, ap, ◌∙◌}
use mathlib.Core.List.{List}
use Prim.Native.Nat.{ℕ}
use Rattle.std.specs.Prelude.{IfOk}
use Rattle.fdt_record.specs.declared.Record.{Record}
use Rattle.fdt_record.specs.Answers.{answer_of}
use Rattle.fdt_nodes.specs.declared.FdtWriterNode.{FdtWriterNode}
use Rattle.fdt_calls.specs.Calls.{Call, begin_node, Desk}
use Rattle.fdt_calls.specs.Called.{desk_of, Called, handle_of, shown_part}
use Rattle.fdt_calls.proofs.OneOutcome.{one_called, one_begun}
use Rattle.fdt_writer.specs.declared.Answered.{Answered}

-- equal desks have equal buffers
same_buffers : {v w : Record} {a b c d e f : List ℕ} → ◌≡◌ {A = Desk} (desk_of v a b c) (desk_of w d e f) → (a ≡ d) × (b ≡ e) × (c ≡ f)
same_buffers p = (ap (λ (t : Desk). t.blob) p, ap (λ (t : Desk). t.strings) p, ap (λ (t : Desk). t.phandles) p)

module _ {s : Desk} {a b c d e f : List ℕ} where
  -- every method that returns a writer, except `begin_node`
  pub one-answered : {call : Call} {r q : Answered (Unit {0})} → Called call s r.answer (desk_of r.writer.0 a b c) → Called call s q.answer (desk_of q.writer.0 d e f) → (r ≡ q) × ((a ≡ d) × (b ≡ e) × (c ≡ f))
  one-answered p q =
      let same = one_called p q in
      (λ i. record { answer = same.0 i; writer = record { 0 = (same.1 i).writer } }, same_buffers same.1)

  -- `begin_node`
  pub one-node-answered : {name : List ℕ} {r q : Answered FdtWriterNode}
      → Called (begin_node name) s (answer_of r.answer) (desk_of r.writer.0 a b c) × IfOk r.answer (λ handle. handle ≡ handle_of s name)
      → Called (begin_node name) s (answer_of q.answer) (desk_of q.writer.0 d e f) × IfOk q.answer (λ handle. handle ≡ handle_of s name)
      → (r ≡ q) × ((a ≡ d) × (b ≡ e) × (c ≡ f))
  one-node-answered {name = name} {r = r} {q = q} p o =
      let same = one_called p.0 o.0 in
      let answer = one_begun (handle_of s name) r.answer q.answer same.0 p.1 o.1 in
      (λ i. record { answer = answer i; writer = record { 0 = (same.1 i).writer } }, same_buffers same.1)

-- `show`
pub one-shown : (s : Desk) {a b : List ℕ} → a ≡ shown_part s → b ≡ shown_part s → a ≡ b
one-shown s p q = p ∙ sym q
