-- Rows of frames as they are copied.
use Rattle.std.proofs.Common.{ℕ, List, inr}
use Rattle.machine_model.specs.State.{State}
use Rattle.host_lines.specs.declared.answer.Answer.{Answer}
use Rattle.host_lines.specs.declared.answer.Answer.TheVariants as answer
use Rattle.host_desk.specs.Views.{FrameRow, OfFrame}

-- a row of a frame that is there
pub of_frame : (s : State) (i y : ℕ) (old new : List ℕ) (a : Answer) → OfFrame s i y old a new → FrameRow s i y old a new
of_frame s i y old new answer.Done h = h
of_frame s i y old new answer.NoRoom h = h
of_frame s i y old new answer.Outside h = inr h
of_frame s i y old new answer.Again h = h.3
of_frame s i y old new answer.Idle h = h.3
of_frame s i y old new answer.Settled h = h.3
of_frame s i y old new answer.Nothing h = h.3
of_frame s i y old new answer.NoMemory h = h.3
of_frame s i y old new answer.Shut h = h.3
of_frame s i y old new answer.InUse h = h.3
of_frame s i y old new answer.Undone h = h.3
of_frame s i y old new answer.Stranger h = h.3
of_frame s i y old new answer.Full h = h.3
of_frame s i y old new (answer.Fault c) h = h.3
of_frame s i y old new answer.SecondLine h = h.3
