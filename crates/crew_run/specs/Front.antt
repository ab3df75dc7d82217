-- Scripts, and the fronts of their commands.
use Rattle.std.specs.Prelude.{◌≡◌, List, [], take, length}
use Rattle.doc_model.specs.declared.command.Command.{Command}
use Rattle.machine_model.specs.State.{State}
use Rattle.script_text.specs.Script.{Contents}
use Rattle.crew_run.specs.Watched.{KeepsRoot}

-- what was fed is the front of the commands
abbrev pub IsFront : List Command → List Command → Type 0
IsFront fed commands = fed ≡ take (length fed) commands

-- the canvas and the root's cache stay, and nothing is fed
pub record KeepsFed (old new : State) : Type 0 where
  pub canvas : new.canvas ≡ old.canvas
  pub fed : new.fed ≡ old.fed
  pub root : KeepsRoot old new

-- a canvas without points, and no commands
abbrev pub nothing : Contents
nothing = record { canvas = record { w = 0; h = 0; paper = record { r = 0; g = 0; b = 0; a = 255 } }; commands = [] }
