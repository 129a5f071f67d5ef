-- What the layers below ensure of each call is that the call was made: a law for each method of `FdtWriter`.
-- A method passes on the outcome `o` of a layer as `t`, which is equal to it.
use mathlib.Core.Path.{◌≡◌, refl, sym, ap, subst, ◌∙◌}
use mathlib.Core.List.{List, [], ◌∷◌}
use Prim.Native.Nat.{ℕ, ◌+◌}
use lib.ListN.{length}
use Rattle.std.specs.Prelude.{Ok, Err, IfOk}
use Rattle.fdt_record.specs.declared.Outcome.{Outcome}
use Rattle.fdt_record.specs.declared.Record.{Record}
use Rattle.fdt_record.specs.Answers.{Answer, Done, giving, answer_of, accepts, upon}
use Rattle.fdt_record.proofs.Answers.{answer-giving}
use Rattle.fdt_values.specs.Value.{raw, cells, texts}
use Rattle.fdt_opening.specs.Opening.{opening, OpeningOutcome}
use Rattle.fdt_nodes.specs.declared.FdtWriterNode.{FdtWriterNode}
use Rattle.fdt_nodes.specs.Begin.{begin, BeginOutcome, begin_answer}
use Rattle.fdt_nodes.specs.End.{end, EndOutcome}
use Rattle.fdt_properties.specs.Property.{property, PropertyOutcome}
use Rattle.fdt_phandles.specs.Phandle.{PhandleOutcome}
use Rattle.fdt_finish.specs.Boot.{boot}
use Rattle.fdt_finish.specs.Finish.{finish, FinishOutcome}
use Rattle.fdt_finish.specs.Shown.{shown}
use Rattle.fdt_calls.specs.Calls as call
use Rattle.fdt_calls.specs.Calls.{Call, asks, Request, Desk, answer, after}
use Rattle.fdt_calls.specs.Called.{desk_of, Called, handle_of, shown_part}
use Rattle.fdt_calls.proofs.Desks.{same-desk}

-- an outcome and buffers that are those of the call
made : {c : Call} {s : Desk} {t : Outcome (Unit {0})} {b n q : List ℕ} → t ≡ record { answer = answer (asks c) s; after = (after (asks c) s).writer } → b ≡ (after (asks c) s).blob → n ≡ (after (asks c) s).strings → q ≡ (after (asks c) s).phandles → Called c s t.answer (desk_of t.after b n q)
made e f g h = record {
  answered = ap (λ (o : Outcome (Unit {0})). o.answer) e;
  leaves = same-desk (ap (λ (o : Outcome (Unit {0})). o.after) e) f g h;
}

-- the outcome of beginning a node, without the handle
abbrev outcome : Outcome FdtWriterNode → Outcome (Unit {0})
outcome o = record { answer = answer_of o.answer; after = o.after }

-- the handle that is given with an answer
given : (a : Answer) (n : ℕ) → IfOk (giving a (record { 0 = n })) (λ h. ◌≡◌ {A = FdtWriterNode} h (record { 0 = upon a n 0 }))
unfolding accepts
given (Ok tt) n = refl
given (Err error) n = tt

-- ---- what a layer ensures

module _ {w : Record} {blob strings phandles : List ℕ} where
  pub new_with_mem_reserv_called : {numbers : List ℕ} {t o : Outcome (Unit {0})} {b : List ℕ} → t ≡ o → OpeningOutcome blob (length strings) (length phandles) numbers o b → Called (call.new_with_mem_reserv numbers) (desk_of w blob strings phandles) t.answer (desk_of t.after b strings phandles)
  unfolding asks answer after opening
  new_with_mem_reserv_called e p = made (e ∙ p.result) p.bytes refl refl

  pub set-boot_cpuid_phys_called : {n : ℕ} {t o : Outcome (Unit {0})} → t ≡ o → o ≡ boot w n → Called (call.set_boot_cpuid_phys n) (desk_of w blob strings phandles) t.answer (desk_of t.after blob strings phandles)
  unfolding asks answer after boot
  set-boot_cpuid_phys_called e p = made (e ∙ p) refl refl refl

  pub begin-node_called : {name : List ℕ} {t o : Outcome FdtWriterNode} {b : List ℕ} → t ≡ o → BeginOutcome w blob name o b
      → Called (call.begin_node name) (desk_of w blob strings phandles) (answer_of t.answer) (desk_of t.after b strings phandles) × IfOk t.answer (λ h. h ≡ handle_of (desk_of w blob strings phandles) name)
  unfolding asks answer after begin
  begin-node_called {name = name} e p =
      let a = begin_answer w (length blob) name in
      let r = e ∙ p.result in
      let forgotten = ap (λ (x : Answer). record { answer = x; after = (begin w blob name).after }) (answer-giving a (record { 0 = w.node_depth + 1 })) in
      let P : Outcome FdtWriterNode → Type 0 = λ x. IfOk x.answer (λ h. ◌≡◌ {A = FdtWriterNode} h (record { 0 = upon a (w.node_depth + 1) 0 })) in
      (made (ap outcome r ∙ forgotten) p.bytes refl refl, subst P (sym r) (given a (w.node_depth + 1)))

  pub end-node_called : {handle : ℕ} {t o : Outcome (Unit {0})} {b : List ℕ} → t ≡ o → EndOutcome w blob handle o b → Called (call.end_node handle) (desk_of w blob strings phandles) t.answer (desk_of t.after b strings phandles)
  unfolding asks answer after end
  end-node_called e p = made (e ∙ p.result) p.bytes refl refl

  pub property_called : {name bytes : List ℕ} {t o : Outcome (Unit {0})} {b n : List ℕ} → t ≡ o → PropertyOutcome w blob strings name (raw bytes) o b n → Called (call.property name bytes) (desk_of w blob strings phandles) t.answer (desk_of t.after b n phandles)
  unfolding asks answer after property
  property_called e p = made (e ∙ p.result) p.bytes p.names refl

  pub property_string-list_called : {name joined lengths : List ℕ} {t o : Outcome (Unit {0})} {b n : List ℕ} → t ≡ o → PropertyOutcome w blob strings name (texts joined lengths) o b n → Called (call.property_string_list name joined lengths) (desk_of w blob strings phandles) t.answer (desk_of t.after b n phandles)
  unfolding asks answer after property
  property_string-list_called e p = made (e ∙ p.result) p.bytes p.names refl

  pub property_array_u32_called : {name numbers : List ℕ} {t o : Outcome (Unit {0})} {b n : List ℕ} → t ≡ o → PropertyOutcome w blob strings name (cells 4 numbers) o b n → Called (call.property_array_u32 name numbers) (desk_of w blob strings phandles) t.answer (desk_of t.after b n phandles)
  unfolding asks answer after property
  property_array_u32_called e p = made (e ∙ p.result) p.bytes p.names refl

  pub property_array_u64_called : {name numbers : List ℕ} {t o : Outcome (Unit {0})} {b n : List ℕ} → t ≡ o → PropertyOutcome w blob strings name (cells 8 numbers) o b n → Called (call.property_array_u64 name numbers) (desk_of w blob strings phandles) t.answer (desk_of t.after b n phandles)
  unfolding asks answer after property
  property_array_u64_called e p = made (e ∙ p.result) p.bytes p.names refl

  pub property-phandle_called : {value : ℕ} {t o : Outcome (Unit {0})} {b n q : List ℕ} → t ≡ o → PhandleOutcome w blob strings phandles value o b n q → Called (call.property_phandle value) (desk_of w blob strings phandles) t.answer (desk_of t.after b n q)
  unfolding asks answer after
  property-phandle_called e p = made (e ∙ p.result) p.bytes p.names p.handles

  pub finish_called : {t o : Outcome (Unit {0})} {b : List ℕ} → t ≡ o → FinishOutcome w blob strings o b → Called call.finish (desk_of w blob strings phandles) t.answer (desk_of t.after b strings phandles)
  unfolding asks answer after finish
  finish_called e p = made (e ∙ p.result) p.bytes refl refl

  pub show_called : {part : List ℕ} → part ≡ shown w blob → Called call.show (desk_of w blob strings phandles) Done (desk_of w blob strings phandles) × (part ≡ shown_part (desk_of w blob strings phandles))
  unfolding asks answer after
  show_called p = (record { answered = refl; leaves = refl }, p)

-- ---- what another method ensures

module _ {s : Desk} {a : Answer} {t : Desk} where
  -- calls that ask for the same
  alike : {c d : Call} → asks c ≡ asks d → Called c s a t → Called d s a t
  alike e p = record {
    answered = p.answered ∙ ap (λ (r : Request). answer r s) e;
    leaves = p.leaves ∙ ap (λ (r : Request). after r s) e;
  }

  pub new_called : Called (call.new_with_mem_reserv []) s a t → Called call.new s a t
  unfolding asks
  new_called p = alike refl p

  pub property_null_called : {name : List ℕ} → Called (call.property name []) s a t → Called (call.property_null name) s a t
  unfolding asks
  property_null_called p = alike refl p

  pub property_string_called : {name string : List ℕ} → Called (call.property_string_list name string (length string ∷ [])) s a t → Called (call.property_string name string) s a t
  unfolding asks
  property_string_called p = alike refl p

  pub property_u32_called : {name : List ℕ} {n : ℕ} → Called (call.property_array_u32 name (n ∷ [])) s a t → Called (call.property_u32 name n) s a t
  unfolding asks
  property_u32_called p = alike refl p

  pub property_u64_called : {name : List ℕ} {n : ℕ} → Called (call.property_array_u64 name (n ∷ [])) s a t → Called (call.property_u64 name n) s a t
  unfolding asks
  property_u64_called p = alike refl p
