-- A text that is the trace of a script.
use Rattle.std.specs.Prelude.{◌≡◌, ℕ, List, Ok}
use Rattle.machine_model.specs.State.{State}
use Rattle.script_text.specs.Script.{Contents}
use Rattle.trace_lines.specs.Replay.{replay, script_in, slots_in}

-- the bytes are a trace without a fault, its script is that one, and its first line says that number of slots
pub record IsTraceOf (script : Contents) (slots : ℕ) (bytes : List ℕ) : Type 0 where
  pub last : State
  pub replays : replay bytes ≡ Ok last
  pub script_is : script_in last ≡ script
  pub slots_are : slots_in bytes ≡ Ok slots
