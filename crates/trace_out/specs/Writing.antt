-- Events of a desk that are written down as they happen.
use Rattle.std.specs.Prelude.{◌≡◌, ℕ, true, Option, Some, List, ◌++◌, map}
use Rattle.std.specs.List.{list_all, flat_map, AllByRecursion}
use Rattle.machine_model.specs.State.{State}
use Rattle.machine_model.specs.Event.{Event}
use Rattle.machine_model.specs.SoundnessLaws.{IsReached}
use Rattle.slot_core.specs.declared.Busy.{Busy}
use Rattle.desk_state.specs.declared.work.Work.{Work}
use Rattle.desk_state.specs.Parts.{slot_of}
use Rattle.desk_state.specs.Tied.{IsKept}
use Rattle.trace_lines.specs.declared.line.Line.{Line}
use Rattle.trace_lines.specs.Texts.{line_text}
use Rattle.trace_lines.specs.Ranges.{line_in_range}
use Rattle.trace_lines.specs.Leads.{led_to}

-- what is held is what is at work, as it was taken; and some run leads there
pub record IsTied (held : List (Option (Busy Work))) (s : State) : Type 0 where
  pub slots : map slot_of held ≡ s.slots
  pub kept : AllByRecursion IsKept held
  pub events : List Event
  pub reached : IsReached events s

-- lines that lead from one state to the other were added to a text
pub record Writes (old : State) (before : List ℕ) (new : State) (after : List ℕ) : Type 0 where
  pub lines : List Line
  pub fit : list_all line_in_range lines ≡ true
  pub leads : led_to old lines ≡ Some new
  pub text : after ≡ before ++ flat_map line_text lines
  pub canvas : new.canvas ≡ old.canvas
