-- What it means that a public call was made. Every method of `FdtWriter` states it of its own call.
use Rattle.std.specs.Prelude.{◌≡◌, List, ℕ, ◌+◌, length}
use Rattle.fdt_record.specs.declared.Record.{Record}
use Rattle.fdt_record.specs.Answers.{Answer, upon}
use Rattle.fdt_nodes.specs.declared.FdtWriterNode.{FdtWriterNode}
use Rattle.fdt_nodes.specs.Begin.{begin_answer}
use Rattle.fdt_finish.specs.Shown.{shown}
use Rattle.fdt_calls.specs.Calls.{Call, asks, Desk, answer, after}

-- a record and three buffers, as a desk
abbrev pub desk_of : Record → List ℕ → List ℕ → List ℕ → Desk
desk_of w blob strings phandles = record { writer = w; blob = blob; strings = strings; phandles = phandles }

-- a public call was made: it found the desk `before`, gave this answer and left this desk
pub record Called (c : Call) (before : Desk) (given : Answer) (left : Desk) : Type 0 where
  -- the answer is that of what the call asks for
  pub answered : given ≡ answer (asks c) before
  -- and so are the record and the buffers afterwards
  pub leaves : left ≡ after (asks c) before

-- the handle that beginning a node returns: the depth just after the node began; 0 if it is refused
abbrev pub handle_of : Desk → List ℕ → FdtWriterNode
handle_of s name = record {
  0 = upon (begin_answer s.writer (length s.blob) name) (s.writer.node_depth + 1) 0;
}

-- the part of the blob that showing returns
abbrev pub shown_part : Desk → List ℕ
shown_part s = shown s.writer s.blob
