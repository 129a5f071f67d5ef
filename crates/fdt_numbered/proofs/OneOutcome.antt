-- Two results that satisfy a function's statement are equal: the number, the writer, the handle, the shown length, and every byte and entry lent.
use mathlib.Core.Path.{◌≡◌, sym, ap, ◌∙◌}
use mathlib.Core.List.{List}
use Prim.Native.Nat.{ℕ}
use Rattle.fdt_calls.specs.Calls.{Call, Desk}
use Rattle.fdt_calls.specs.Called.{desk_of}
use Rattle.fdt_calls.specs.Made.{Made, handle_number, shown_length}
use Rattle.fdt_calls.proofs.Made.{one-outcome}
use Rattle.fdt_writer.specs.declared.FdtWriter.{FdtWriter}

-- every function that returns or stores a writer
pub one-numbered : {call : Call} {s : Desk} {m n : ℕ} {v w : FdtWriter} {a b c d e f : List ℕ} → Made call s m (desk_of v.0 a b c) → Made call s n (desk_of w.0 d e f) → (m ≡ n) × (v ≡ w) × ((a ≡ d) × (b ≡ e) × (c ≡ f))
one-numbered p q =
    let desk = (one-outcome p q).1 in
    ((one-outcome p q).0, (λ i. record { 0 = (desk i).writer }), (ap (λ (t : Desk). t.blob) desk, ap (λ (t : Desk). t.strings) desk, ap (λ (t : Desk). t.phandles) desk))

-- the handle that `begin_node` stores
pub one_handle : (s : Desk) (name : List ℕ) {m n : ℕ} → m ≡ handle_number s name → n ≡ handle_number s name → m ≡ n
one_handle s name p q = p ∙ sym q

-- `show`
pub one-length : (s : Desk) {m n : ℕ} → m ≡ shown_length s → n ≡ shown_length s → m ≡ n
one-length s p q = p ∙ sym q
