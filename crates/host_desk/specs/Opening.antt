-- A desk that is opened for a script.
use Rattle.std.specs.Prelude.{◌≡◌, ℕ, Result, Ok, Err, Some, List}
use Rattle.machine_model.specs.State.{State, new_state}
use Rattle.script_text.specs.Script.{Contents}
use Rattle.script_text.specs.Reading.{fault, script}
use Rattle.script_text.specs.declared.script.ReadRefusal.{ReadRefusal}
use Rattle.script_text.specs.declared.script.ReadRefusal.TheVariants.{Fault, NoMemory}
use Rattle.host_desk.specs.Feeding.{Feeds}

-- the text is a script, whose commands were fed; or it has that fault; or memory ended
abbrev pub OpensScript : List ℕ → ℕ → Result State ReadRefusal → Type 0
OpensScript text slots (Ok s) = (c : Contents) × (script text ≡ Some c) × Feeds (new_state c.canvas slots) c.commands s
OpensScript text slots (Err (Fault f)) = fault text ≡ Some f
OpensScript text slots (Err NoMemory) = Unit {0}
