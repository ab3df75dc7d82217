-- Answers told by their numbers.
use Rattle.std.proofs.Common.{◌≡◌, ℕ, if◌then◌else◌, refl, ap, sym, ◌∙◌}
use Rattle.std.specs.Prelude.{◌==◌}
use Rattle.script_lines.specs.declared.cause.Cause.{Cause}
use Rattle.script_lines.specs.declared.cause.Cause.TheVariants as cause
use Rattle.host_lines.specs.declared.answer.Answer.{Answer}
use Rattle.host_lines.specs.declared.answer.Answer.TheVariants as answer
use Rattle.host_lines.specs.Answers.{CodesTellAnswers, code_of}

-- the answer of a number, and one of those that there are where it is none
told : ℕ → Answer
told n =
    if n == 0 then answer.Done
    else if n == 1 then answer.Again
    else if n == 2 then answer.Idle
    else if n == 3 then answer.Settled
    else if n == 4 then answer.Nothing
    else if n == 16 then answer.NoMemory
    else if n == 17 then answer.Shut
    else if n == 18 then answer.InUse
    else if n == 19 then answer.Undone
    else if n == 20 then answer.Stranger
    else if n == 21 then answer.Outside
    else if n == 22 then answer.NoRoom
    else if n == 23 then answer.Full
    else if n == 32 then answer.Fault cause.UnknownWord
    else if n == 33 then answer.Fault cause.FieldCount
    else if n == 34 then answer.Fault cause.Number
    else if n == 35 then answer.Fault cause.Range
    else if n == 36 then answer.Fault cause.TooManyDabs
    else if n == 37 then answer.Fault cause.OutOfWorld
    else if n == 38 then answer.Fault cause.UnknownStroke
    else if n == 39 then answer.Fault cause.ClosedStroke
    else if n == 40 then answer.Fault cause.UsedAgain
    else if n == 41 then answer.Fault cause.CanvasMissing
    else if n == 42 then answer.Fault cause.CanvasAgain
    else if n == 43 then answer.Fault cause.TooManyJobs
    else if n == 44 then answer.Fault cause.TooManyExports
    else if n == 45 then answer.Fault cause.StrokeLeft
    else if n == 46 then answer.SecondLine
    else answer.Done

told_fault : (c : Cause) → told (code_of (answer.Fault c)) ≡ answer.Fault c
unfolding told
told_fault cause.UnknownWord = refl
told_fault cause.FieldCount = refl
told_fault cause.Number = refl
told_fault cause.Range = refl
told_fault cause.TooManyDabs = refl
told_fault cause.OutOfWorld = refl
told_fault cause.UnknownStroke = refl
told_fault cause.ClosedStroke = refl
told_fault cause.UsedAgain = refl
told_fault cause.CanvasMissing = refl
told_fault cause.CanvasAgain = refl
told_fault cause.TooManyJobs = refl
told_fault cause.TooManyExports = refl
told_fault cause.StrokeLeft = refl

told_again : (a : Answer) → told (code_of a) ≡ a
unfolding told
told_again answer.Done = refl
told_again answer.Again = refl
told_again answer.Idle = refl
told_again answer.Settled = refl
told_again answer.Nothing = refl
told_again answer.NoMemory = refl
told_again answer.Shut = refl
told_again answer.InUse = refl
told_again answer.Undone = refl
told_again answer.Stranger = refl
told_again answer.Outside = refl
told_again answer.NoRoom = refl
told_again answer.Full = refl
told_again (answer.Fault c) = told_fault c
told_again answer.SecondLine = refl

pub answers_told : CodesTellAnswers
answers_told a b e = sym (told_again a) ∙ ap told e ∙ told_again b
