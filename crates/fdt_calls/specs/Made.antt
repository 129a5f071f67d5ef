-- What it means that a public call was made and answered by its number. The functions of fdt_numbered and export_writer state it, each of its own call;
-- those that show the blob return `shown_length`.
use Rattle.std.specs.Prelude.{◌≡◌, List, ℕ, length}
use Rattle.fdt_record.specs.Answers.{number_of}
use Rattle.fdt_calls.specs.Calls.{Call, asks, Desk, answer, after}
use Rattle.fdt_calls.specs.Called.{handle_of, shown_part}

-- a call was made: it found the desk `before`, returned this number and left this desk
pub record Made (c : Call) (before : Desk) (number : ℕ) (left : Desk) : Type 0 where
  -- the number is that of the call's answer
  pub numbered : number ≡ number_of (answer (asks c) before)
  -- the record and the buffers afterwards are the call's
  pub leaves : left ≡ after (asks c) before

-- the handle that beginning a node returns, as a number; 0 if it is refused
abbrev pub handle_number : Desk → List ℕ → ℕ
handle_number s name = (handle_of s name).0

-- the length of the part that showing returns
abbrev pub shown_length : Desk → ℕ
shown_length s = length (shown_part s)
