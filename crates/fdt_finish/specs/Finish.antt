-- What `finish` answers and leaves (document 01: finish tests 18, 17, 7, 14).
use Rattle.std.specs.Prelude.{◌≡◌, true, not, List, [], ◌∷◌, ◌++◌, ℕ, ◌+◌, eqb, length, take}
use Rattle.fdt_bytes.specs.Splice.{splice}
use Rattle.fdt_header.specs.Header.{header_bytes}
use Rattle.fdt_format.specs.Tokens.{final_bytes}
use Rattle.fdt_record.specs.declared.Error.TheVariants.{UnclosedNode, BlobRoom}
use Rattle.fdt_record.specs.declared.Outcome.{Outcome}
use Rattle.fdt_record.specs.declared.Record.{Record}
use Rattle.fdt_record.specs.Answers.{Answer, upon}
use Rattle.fdt_record.specs.Fields.{with_used_blob, with_finished}
use Rattle.fdt_record.specs.Misfits.{overfull}
use Rattle.fdt_record.specs.Rows.{Row, ◌⇒◌, first}
use Rattle.fdt_record.specs.Tests.{strings_rows}

-- the used strings
unfoldable pub used_strings : Record → List ℕ → List ℕ
used_strings w strings = take w.strings_used strings

-- the record after an accepted finish: marked finished, its used blob length the total size, the rest kept
unfoldable pub finished_record : Record → Record
finished_record w = with_finished true (with_used_blob (w.blob_used + (4 + w.strings_used)) w)

-- the tests, in their order, of a call that is lent a blob of this length and these strings
unfoldable pub finish_rows : Record → ℕ → List ℕ → List Row
finish_rows w lent strings =
    strings_rows w lent strings
    ++ (not (eqb w.node_depth 0) ⇒ UnclosedNode)
    ∷ (overfull (finished_record w) ⇒ BlobRoom)
    ∷ []

-- the answer
unfoldable pub finish_answer : Record → ℕ → List ℕ → Answer
finish_answer w lent strings = first (finish_rows w lent strings)

-- the blob after an accepted finish: word 9 and the strings at the used length, and the header in front
unfoldable pub finished_blob : Record → List ℕ → List ℕ → List ℕ
finished_blob w blob strings =
    splice 0 (header_bytes w.reservations (w.blob_used + 4) w.strings_used w.boot_cpuid_phys)
    (splice w.blob_used (final_bytes (used_strings w strings)) blob)

-- the answer and the record
unfoldable pub finish : Record → ℕ → List ℕ → Outcome (Unit {0})
finish w lent strings = record {
  answer = finish_answer w lent strings;
  after = upon (finish_answer w lent strings) (finished_record w) w;
}

-- the blob afterwards
unfoldable pub finish_blob : Record → List ℕ → List ℕ → List ℕ
finish_blob w blob strings = upon (finish_answer w (length blob) strings) (finished_blob w blob strings) blob

-- the outcome of a call
pub record FinishOutcome (w : Record) (blob strings : List ℕ) (r : Outcome (Unit {0})) (after : List ℕ) : Type 0 where
  pub result : r ≡ finish w (length blob) strings
  pub bytes : after ≡ finish_blob w blob strings
