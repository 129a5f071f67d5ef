-- A call's tests in their order, as rows of a condition and the refusal that it gets.
use Rattle.std.specs.Prelude.{Bool, cond, List, [], ◌∷◌, Err}
use Rattle.fdt_record.specs.declared.Error.{Error}
use Rattle.fdt_record.specs.Answers.{Answer, Done}

infixr 30 ◌⇒◌
-- a condition and the refusal that it gets
pub data Row : Type 0 where
  ◌⇒◌ : Bool → Error → Row

-- the refusal of the first row that holds, or acceptance
unfoldable pub first : List Row → Answer
first [] = Done
first ((holds ⇒ error) ∷ rows) = cond holds (Err error) (first rows)
