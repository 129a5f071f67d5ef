-- What `end_node` answers and leaves (document 01: end tests 18, 17, 6, 14).
use Rattle.std.specs.Prelude.{◌≡◌, true, not, ◌||◌, List, [], ◌∷◌, ◌++◌, ℕ, ◌+◌, ◌-◌, eqb, length}
use Rattle.fdt_bytes.specs.Splice.{splice}
use Rattle.fdt_format.specs.Tokens.{end_bytes}
use Rattle.fdt_record.specs.declared.Error.TheVariants.{OutOfOrderEndNode, BlobRoom}
use Rattle.fdt_record.specs.declared.Outcome.{Outcome}
use Rattle.fdt_record.specs.declared.Record.{Record}
use Rattle.fdt_record.specs.Answers.{Answer, upon}
use Rattle.fdt_record.specs.Fields.{with_used_blob, with_depth, with_ended}
use Rattle.fdt_record.specs.Misfits.{overfull}
use Rattle.fdt_record.specs.Rows.{Row, ◌⇒◌, first}
use Rattle.fdt_record.specs.Tests.{blob_rows}

-- the record after an accepted end: its bytes are used, the depth is one less, a node was ended last; where properties start is kept
unfoldable pub ended_record : Record → Record
ended_record w = with_ended true (with_depth (w.node_depth - 1) (with_used_blob (w.blob_used + length end_bytes) w))

-- the tests, in their order, of a call that is lent a blob of this length
unfoldable pub end_rows : Record → ℕ → ℕ → List Row
end_rows w lent handle =
    blob_rows w lent
    ++ ((not (eqb handle w.node_depth) || eqb w.node_depth 0) ⇒ OutOfOrderEndNode)
    ∷ (overfull (ended_record w) ⇒ BlobRoom)
    ∷ []

-- the answer
unfoldable pub end_answer : Record → ℕ → ℕ → Answer
end_answer w lent handle = first (end_rows w lent handle)

-- the answer and the record
unfoldable pub end : Record → List ℕ → ℕ → Outcome (Unit {0})
end w blob handle = record {
  answer = end_answer w (length blob) handle;
  after = upon (end_answer w (length blob) handle) (ended_record w) w;
}

-- the blob afterwards: an accepted end's bytes at the used length, and nothing else changed
unfoldable pub end_blob : Record → List ℕ → ℕ → List ℕ
end_blob w blob handle = upon (end_answer w (length blob) handle) (splice w.blob_used end_bytes blob) blob

-- the outcome of a call
pub record EndOutcome (w : Record) (blob : List ℕ) (handle : ℕ) (r : Outcome (Unit {0})) (after : List ℕ) : Type 0 where
  pub result : r ≡ end w blob handle
  pub bytes : after ≡ end_blob w blob handle
