-- A trace without a fault is a run of the machine that settles.
use Rattle.std.specs.Prelude.{◌≡◌, true, List, Ok}
use Rattle.std.specs.List.{list_all}
use Rattle.doc_model.specs.Canvases.{IsOfLimits}
use Rattle.doc_model.specs.Feeding.{lawful, is_closed_entry}
use Rattle.doc_model.specs.Strokes.{entries}
use Rattle.script_forms.specs.Jobs.{Fields}
use Rattle.machine_model.specs.State.{State}
use Rattle.machine_model.specs.Settled.{IsSettled}
use Rattle.machine_model.specs.Event.{Event}
use Rattle.machine_model.specs.SoundnessLaws.{IsReached, fed_by}
use Rattle.machine_model.specs.MeaningLaws.{HasMeaning}
use Rattle.trace_lines.specs.Replay.{replayed}

-- events lead to the state from a new machine, and it is settled: so it is the meaning of the commands that these events fed, each of which may follow those before it, with all strokes closed
pub record IsRunThatSettles (s : State) : Type 0 where
  pub events : List Event
  pub run : IsReached events s
  pub settled : IsSettled s
  pub canvas : IsOfLimits s.canvas
  pub fed : s.fed ≡ fed_by events
  pub lawful : lawful s.fed ≡ true
  pub closed : list_all is_closed_entry (entries s.fed) ≡ true
  pub meaning : HasMeaning s

-- so it is of all lines without a fault
abbrev pub ReplayedRuns : Type 0
ReplayedRuns = (ls : List Fields) (s : State) → replayed ls ≡ Ok s → IsRunThatSettles s
