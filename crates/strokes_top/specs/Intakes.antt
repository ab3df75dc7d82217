-- What was read of a script whose end isn't known yet.
use Rattle.std.specs.Prelude.{◌≡◌, ℕ, List, ◌++◌}
use Rattle.script_lines.specs.Lines.{lines}
use Rattle.script_forms.specs.Jobs.{Fields}
use Rattle.script_text.specs.Pieces.{HasRead}
use Rattle.strokes_top.specs.declared.intake.Intake.{Intake}

-- the intake has taken these bytes: the reader has read whole lines of them, of which none has a fault,
-- and the rest begins the line behind those; however the bytes go on, their lines are these lines and
-- those of the rest and what comes
pub record HasTaken (intake : Intake) (got : List ℕ) : Type 0 where
  pub whole : List Fields
  pub read : HasRead intake.reader whole
  pub rest : (more : List ℕ) → lines (got ++ more) ≡ whole ++ lines (intake.rest.items ++ more)
