-- Two results of `begin_node` in place are equal: the answer, the handle, the writer that is left, and every byte and entry lent. Of the other calls `one_called` says it.
use mathlib.Core.Path.{◌≡◌}
use mathlib.Core.List.{List}
use Prim.Native.Nat.{ℕ}
use Rattle.std.specs.Prelude.{Result, IfOk}
use Rattle.fdt_record.specs.declared.Error.{Error}
use Rattle.fdt_record.specs.Answers.{answer_of}
use Rattle.fdt_nodes.specs.declared.FdtWriterNode.{FdtWriterNode}
use Rattle.fdt_calls.specs.Calls.{begin_node, Desk}
use Rattle.fdt_calls.specs.Called.{Called, handle_of}
use Rattle.fdt_calls.proofs.OneOutcome.{one_called, one_begun}

-- `begin_node`
pub one-node_in_place : {name : List ℕ} {s : Desk} {r q : Result FdtWriterNode Error} {t u : Desk}
    → Called (begin_node name) s (answer_of r) t × IfOk r (λ handle. handle ≡ handle_of s name)
    → Called (begin_node name) s (answer_of q) u × IfOk q (λ handle. handle ≡ handle_of s name)
    → (r ≡ q) × (t ≡ u)
one-node_in_place {name = name} {s = s} {r = r} {q = q} p o =
    let same = one_called p.0 o.0 in (one_begun (handle_of s name) r q same.0 p.1 o.1, same.1)
