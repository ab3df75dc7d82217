-- Answers as numbers.
use Rattle.std.specs.Prelude.{◌≡◌, ℕ, ◌+◌}
use Rattle.script_lines.specs.declared.cause.Cause.{Cause}
use Rattle.script_lines.specs.declared.cause.Cause.TheVariants as cause
use Rattle.host_lines.specs.declared.answer.Answer.{Answer}
use Rattle.host_lines.specs.declared.answer.Answer.TheVariants as answer

-- the causes in their order
abbrev pub cause_number : Cause → ℕ
cause_number cause.UnknownWord = 0
cause_number cause.FieldCount = 1
cause_number cause.Number = 2
cause_number cause.Range = 3
cause_number cause.TooManyDabs = 4
cause_number cause.OutOfWorld = 5
cause_number cause.UnknownStroke = 6
cause_number cause.ClosedStroke = 7
cause_number cause.UsedAgain = 8
cause_number cause.CanvasMissing = 9
cause_number cause.CanvasAgain = 10
cause_number cause.TooManyJobs = 11
cause_number cause.TooManyExports = 12
cause_number cause.StrokeLeft = 13

-- the number of an answer
abbrev pub code_of : Answer → ℕ
code_of answer.Done = 0
code_of answer.Again = 1
code_of answer.Idle = 2
code_of answer.Settled = 3
code_of answer.Nothing = 4
code_of answer.NoMemory = 16
code_of answer.Shut = 17
code_of answer.InUse = 18
code_of answer.Undone = 19
code_of answer.Stranger = 20
code_of answer.Outside = 21
code_of answer.NoRoom = 22
code_of answer.Full = 23
code_of (answer.Fault c) = 32 + cause_number c
code_of answer.SecondLine = 46

-- no two answers have one number
abbrev pub CodesTellAnswers : Type 0
CodesTellAnswers = (a b : Answer) → code_of a ≡ code_of b → a ≡ b
