-- A function that passes on the writer of a call, and the number of its answer, makes that call.
use mathlib.Core.Path.{◌≡◌, ap, ◌∙◌}
use mathlib.Core.List.{List}
use Prim.Native.Nat.{ℕ}
use Rattle.fdt_record.specs.Answers.{Answer, number_of}
use Rattle.fdt_calls.specs.Calls.{Call, Desk}
use Rattle.fdt_calls.specs.Called.{desk_of, Called}
use Rattle.fdt_calls.specs.Made.{Made}
use Rattle.fdt_calls.proofs.Made.{by_number}
use Rattle.fdt_writer.specs.declared.FdtWriter.{FdtWriter}

pub called_made : {c : Call} {s : Desk} {a : Answer} {v w : FdtWriter} {n : ℕ} {blob strings phandles : List ℕ} → Called c s a (desk_of v.0 blob strings phandles) → (n ≡ number_of a) × (w ≡ v) → Made c s n (desk_of w.0 blob strings phandles)
called_made {blob = blob} {strings = strings} {phandles = phandles} p e =
    by_number (record { answered = p.answered; leaves = ap (λ (x : FdtWriter). desk_of x.0 blob strings phandles) e.1 ∙ p.leaves }) e.0
