-- What `begin_node` answers and leaves (document 01: begin tests 18, 17, 12, 5, 10, 14).
use Rattle.std.specs.Prelude.{◌≡◌, false, not, List, [], ◌∷◌, ◌++◌, ℕ, ◌+◌, leb, length}
use Rattle.fdt_bytes.specs.Splice.{splice}
use Rattle.fdt_names.specs.Grammar.{matches}
use Rattle.fdt_names.specs.Names.{node_name, has_zero}
use Rattle.fdt_format.specs.Tokens.{begin_bytes}
use Rattle.fdt_record.specs.declared.Error.TheVariants.{NodeDepthTooLarge, InvalidString, InvalidNodeName, BlobRoom}
use Rattle.fdt_record.specs.declared.Record.{Record}
use Rattle.fdt_record.specs.declared.Outcome.{Outcome}
use Rattle.fdt_record.specs.Answers.{Answer, giving, upon}
use Rattle.fdt_record.specs.Fields.{with_used_blob, with_start, with_depth, with_ended}
use Rattle.fdt_record.specs.Limits.{most_depth}
use Rattle.fdt_record.specs.Misfits.{overfull}
use Rattle.fdt_record.specs.Rows.{Row, ◌⇒◌, first}
use Rattle.fdt_record.specs.Tests.{blob_rows}
use Rattle.fdt_nodes.specs.declared.FdtWriterNode.{FdtWriterNode}

-- the record after an accepted begin: its bytes are used, the node's properties start after them (document 02, request 4/14), the depth
-- is one more, no node was ended last
unfoldable pub begun_record : Record → List ℕ → Record
begun_record w name =
    let used : ℕ = w.blob_used + length (begin_bytes name) in
    with_ended false (with_depth (w.node_depth + 1) (with_start used (with_used_blob used w)))

-- the tests, in their order, of a call that is lent a blob of this length
unfoldable pub begin_rows : Record → ℕ → List ℕ → List Row
begin_rows w lent name =
    blob_rows w lent
    ++ (leb most_depth w.node_depth ⇒ NodeDepthTooLarge)
    ∷ (has_zero name ⇒ InvalidString)
    ∷ (not (matches node_name name) ⇒ InvalidNodeName)
    ∷ (overfull (begun_record w name) ⇒ BlobRoom)
    ∷ []

-- the answer
unfoldable pub begin_answer : Record → ℕ → List ℕ → Answer
begin_answer w lent name = first (begin_rows w lent name)

-- the answer, with the handle if it is accepted (the depth just after the node began), and the record
unfoldable pub begin : Record → List ℕ → List ℕ → Outcome FdtWriterNode
begin w blob name = record {
  answer = giving (begin_answer w (length blob) name) (record { 0 = w.node_depth + 1 });
  after = upon (begin_answer w (length blob) name) (begun_record w name) w;
}

-- the blob afterwards: an accepted begin's bytes at the used length, and nothing else changed
unfoldable pub begin_blob : Record → List ℕ → List ℕ → List ℕ
begin_blob w blob name =
    upon (begin_answer w (length blob) name) (splice w.blob_used (begin_bytes name) blob) blob

-- the outcome of a call
pub record BeginOutcome (w : Record) (blob name : List ℕ) (r : Outcome FdtWriterNode) (after : List ℕ) : Type 0 where
  pub result : r ≡ begin w blob name
  pub bytes : after ≡ begin_blob w blob name
