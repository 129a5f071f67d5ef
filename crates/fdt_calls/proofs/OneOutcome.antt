-- Two outcomes of one call at one desk are equal: each is the same function of what was passed in.
use mathlib.Core.Path.{◌≡◌, sym, ap, ◌∙◌}
use Rattle.std.specs.Prelude.{Result, Ok, Err, IfOk}
use Rattle.fdt_record.specs.declared.Error.{Error}
use Rattle.fdt_nodes.specs.declared.FdtWriterNode.{FdtWriterNode}
use Rattle.fdt_record.specs.Answers.{Answer, Done, answer_of}
use Rattle.fdt_calls.specs.Calls.{Call, Desk}
use Rattle.fdt_calls.specs.Called.{Called}

pub one_called : {c : Call} {s : Desk} {a b : Answer} {t u : Desk} → Called c s a t → Called c s b u → (a ≡ b) × (t ≡ u)
one_called p q = (p.answered ∙ sym q.answered, p.leaves ∙ sym q.leaves)

refusal : (error : Error) → ◌≡◌ {A = Answer} (Err error) Done → ⊥
refusal error e = cc

-- two answers of a begin with the same handle where they are accepted
pub one_begun : (h : FdtWriterNode) (r q : Result FdtWriterNode Error) → answer_of r ≡ answer_of q → IfOk r (λ handle. handle ≡ h) → IfOk q (λ handle. handle ≡ h) → r ≡ q
one_begun h (Ok a) (Ok b) e m n = ap Ok (m ∙ sym n)
one_begun h (Ok a) (Err d) e m n = absurd (refusal d (sym e))
one_begun h (Err c) (Ok b) e m n = absurd (refusal c e)
one_begun h (Err c) (Err d) e m n = cc
