-- Acceptance and refusal: what `upon` picks, and that a refusal is no acceptance.
use mathlib.Core.Path.{◌≡◌, refl, sym, ap, ◌∙◌}
use mathlib.Core.Bool.{Bool, true, false, cond, true≢false}
use Rattle.std.specs.Prelude.{Result, Ok, Err}
use Rattle.fdt_record.specs.declared.Error.{Error}
use Rattle.fdt_record.specs.declared.Error.TheVariants.{PropertyBeforeBeginNode, PropertyAfterEndNode, PropertyValueTooLarge, TotalSizeTooLarge, InvalidString, OutOfOrderEndNode, UnclosedNode, InvalidMemoryReservation, OverlappingMemoryReservations, InvalidNodeName, InvalidPropertyName, NodeDepthTooLarge, DuplicatePhandle, BlobRoom, StringRoom, PhandleRoom, Misfit, Finished, TooManyReservations, DuplicateProperty}
use Rattle.fdt_record.specs.declared.Outcome.{Outcome}
use Rattle.fdt_record.specs.declared.Record.{Record}
use Rattle.fdt_record.specs.Answers.{Answer, Done, giving, answer_of, number_of, accepts, upon}

-- an error is no acceptance
pub refuses : (error : Error) → accepts (Err error) ≡ false
unfolding accepts
refuses PropertyBeforeBeginNode = refl
refuses PropertyAfterEndNode = refl
refuses PropertyValueTooLarge = refl
refuses TotalSizeTooLarge = refl
refuses InvalidString = refl
refuses OutOfOrderEndNode = refl
refuses UnclosedNode = refl
refuses InvalidMemoryReservation = refl
refuses OverlappingMemoryReservations = refl
refuses InvalidNodeName = refl
refuses InvalidPropertyName = refl
refuses NodeDepthTooLarge = refl
refuses DuplicatePhandle = refl
refuses BlobRoom = refl
refuses StringRoom = refl
refuses PhandleRoom = refl
refuses Misfit = refl
refuses Finished = refl
refuses TooManyReservations = refl
refuses DuplicateProperty = refl

-- the one answer that accepts
pub accepts-done : (answer : Answer) → accepts answer ≡ true → answer ≡ Done
accepts-done (Ok tt) e = refl
accepts-done (Err error) e = absurd (true≢false (sym e ∙ refuses error))

module _ {A : Type 0} (answer : Answer) (accepted refused : A) where
  pub upon-done : answer ≡ Done → upon answer accepted refused ≡ accepted
  unfolding accepts
  upon-done e = simp e

  pub upon-refused : accepts answer ≡ false → upon answer accepted refused ≡ refused
  upon-refused e = simp e

-- where the call is refused with an error
pub upon-err : {A : Type 0} {answer : Answer} {error : Error} (accepted refused : A) → answer ≡ Err error → upon answer accepted refused ≡ refused
upon-err {error = error} accepted refused e = upon-refused _ accepted refused (ap accepts e ∙ refuses error)

-- what is the same where the answer accepts
pub upon-same : {A : Type 0} (answer : Answer) (one other refused : A) → (accepts answer ≡ true → one ≡ other) → upon answer one refused ≡ upon answer other refused
upon-same answer one other refused f = by (accepts answer) f
  where
    by : (b : Bool) → (b ≡ true → one ≡ other) → cond b one refused ≡ cond b other refused
    by true f = f refl
    by false f = refl

-- An answer with a value, and its answer.
module _ {T : Type 0} where
  pub number-of_answer : (r : Result T Error) → number_of (answer_of r) ≡ number_of r
  number-of_answer (Ok value) = refl
  number-of_answer (Err error) = refl

  pub answer-giving : (answer : Answer) (value : T) → answer_of (giving answer value) ≡ answer
  answer-giving (Ok tt) value = refl
  answer-giving (Err error) value = refl

-- What a call gives by its answer, if it gives no value.
module _ (accepted refused : Record) where
  gives : Answer → Outcome (Unit {0})
  gives a = record { answer = a; after = upon a accepted refused }

  pub outcome-accepted : {answer : Answer} → answer ≡ Done → ◌≡◌ {A = Outcome (Unit {0})} (record { answer = Done; after = accepted }) (record { answer = answer; after = upon answer accepted refused })
  unfolding gives accepts
  outcome-accepted e = ap gives (sym e)

  pub outcome-refused : {answer : Answer} {error : Error} → answer ≡ Err error → ◌≡◌ {A = Outcome (Unit {0})} (record { answer = Err error; after = refused }) (record { answer = answer; after = upon answer accepted refused })
  unfolding gives
  outcome-refused {error = error} e =
      ap (λ (w : Record). record { answer = Err error; after = w }) (sym (upon-err {answer = Err error} accepted refused refl)) ∙ ap gives (sym e)
