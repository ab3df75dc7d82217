-- Desks on which a script was painted.
use Rattle.std.specs.Prelude.{◌≡◌}
use Rattle.machine_model.specs.State.{State}
use Rattle.machine_model.specs.Settled.{IsSettled}
use Rattle.script_text.specs.Script.{Contents}

-- settled, with the script's canvas, and fed with the script's commands
pub record IsPaintedBy (script : Contents) (desk : State) : Type 0 where
  pub settled : IsSettled desk
  pub canvas : desk.canvas ≡ script.canvas
  pub fed : desk.fed ≡ script.commands
