-- The numbers of document 01, "When the desk says no", for each answer; 20 is that of document 02, request 4/14.
use Rattle.std.specs.Prelude.{ℕ, Bool, cond, eqb, Result, Ok, Err}
use Rattle.fdt_record.specs.declared.Error.{Error}
use Rattle.fdt_record.specs.declared.Error.TheVariants.{PropertyBeforeBeginNode, PropertyAfterEndNode, PropertyValueTooLarge, TotalSizeTooLarge, InvalidString, OutOfOrderEndNode, UnclosedNode, InvalidMemoryReservation, OverlappingMemoryReservations, InvalidNodeName, InvalidPropertyName, NodeDepthTooLarge, DuplicatePhandle, BlobRoom, StringRoom, PhandleRoom, Misfit, Finished, TooManyReservations, DuplicateProperty}

-- what a call answers: acceptance, or why it is refused
abbrev pub Answer : Type 0
Answer = Result (Unit {0}) Error

-- acceptance
abbrev pub Done : Answer
Done = Ok tt

-- the answer with the value that acceptance gives, and without it
abbrev pub giving : {T : Type 0} → Answer → T → Result T Error
giving (Ok accepted) value = Ok value
giving (Err error) value = Err error

abbrev pub answer_of : {T : Type 0} → Result T Error → Answer
answer_of (Ok value) = Done
answer_of (Err error) = Err error

-- the number of an error
abbrev pub error_number : Error → ℕ
error_number PropertyBeforeBeginNode = 1
error_number PropertyAfterEndNode = 2
error_number PropertyValueTooLarge = 3
error_number TotalSizeTooLarge = 4
error_number InvalidString = 5
error_number OutOfOrderEndNode = 6
error_number UnclosedNode = 7
error_number InvalidMemoryReservation = 8
error_number OverlappingMemoryReservations = 9
error_number InvalidNodeName = 10
error_number InvalidPropertyName = 11
error_number NodeDepthTooLarge = 12
error_number DuplicatePhandle = 13
error_number BlobRoom = 14
error_number StringRoom = 15
error_number PhandleRoom = 16
error_number Misfit = 17
error_number Finished = 18
error_number TooManyReservations = 19
error_number DuplicateProperty = 20

-- the number of an answer; acceptance is 0
abbrev pub number_of : {T : Type 0} → Result T Error → ℕ
number_of (Ok value) = 0
number_of (Err error) = error_number error

-- the answer is acceptance
unfoldable pub accepts : Answer → Bool
accepts answer = eqb (number_of answer) 0

-- the first if the call is accepted, the second if it is refused
abbrev pub upon : {A : Type 0} → Answer → A → A → A
upon answer accepted refused = cond (accepts answer) accepted refused
