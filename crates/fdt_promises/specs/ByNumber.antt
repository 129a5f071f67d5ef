-- A run whose calls are answered by numbers, as those of export_writer are.
use Rattle.std.specs.Prelude.{◌≡◌, List, [], ◌∷◌, ℕ}
use Rattle.fdt_format.specs.Description.{Description}
use Rattle.fdt_record.specs.Answers.{number_of}
use Rattle.fdt_calls.specs.Calls.{Call, asks, Request, to_open, Desk, answer, after}
use Rattle.fdt_calls.specs.Made.{Made}
use Rattle.fdt_promises.specs.Run.{all_ask, AllInRun, Run, opened_desk, Describes}

-- calls made one after the other, each on the desk that the one before left, with the numbers that they returned
pub data AllMade : List Call → Desk → List ℕ → Desk → Type 0 where
  no_call : (s : Desk) → AllMade [] s [] s
  next_call : {c : Call} {cs : List Call} {s t u : Desk} {n : ℕ} {ns : List ℕ} → Made c s n t → AllMade cs t ns u → AllMade (c ∷ cs) s (n ∷ ns) u

-- an opening that returned 0, and the calls after it
pub record NumberedRun : Type 0 where
  pub before : Desk
  pub opening : Call
  -- the numbers of its reservations
  pub numbers : List ℕ
  pub opens : asks opening ≡ to_open numbers
  pub opened : Desk
  pub returned_0 : Made opening before 0 opened
  pub calls : List Call
  pub between : AllInRun (all_ask calls)
  pub returned : List ℕ
  pub left : Desk
  pub made : AllMade calls opened returned left

-- the run of the same opening and the same calls
pub record OfRun (f : NumberedRun) (r : Run) : Type 0 where
  pub same_before : f.before ≡ r.before
  pub same_numbers : f.numbers ≡ r.numbers
  pub same_calls : f.calls ≡ r.calls

-- the numbers of the answers of calls made one after the other
unfoldable pub numbers_of : List Request → Desk → List ℕ
numbers_of [] s = []
numbers_of (c ∷ cs) s = number_of (answer c s) ∷ numbers_of cs (after c s)

-- the numbers of the answers in a run
abbrev pub numbers_in : Run → List ℕ
numbers_in r = numbers_of (all_ask r.calls) (opened_desk r)

-- what a run by numbers describes: what the run of its calls describes
abbrev pub DescribedBy : NumberedRun → Description → Type 0
DescribedBy f d = (r : Run) × OfRun f r × Describes r d
