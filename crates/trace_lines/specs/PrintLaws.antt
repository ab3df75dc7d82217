-- What is printed is the trace that it says.
use Rattle.std.specs.Prelude.{◌≡◌, ◌≤◌, ℕ, true, Some, Ok, List}
use Rattle.std.specs.List.{list_all}
use Rattle.doc_model.specs.declared.canvas.Canvas.{Canvas}
use Rattle.machine_model.specs.State.{State, new_state}
use Rattle.script_forms.specs.Ranges.{in_limits}
use Rattle.machine_model.specs.Replays.{is_settled}
use Rattle.trace_lines.specs.declared.line.Line.{Line}
use Rattle.trace_lines.specs.Replay.{replay, slots_in}
use Rattle.trace_lines.specs.Texts.{trace_lines}
use Rattle.trace_lines.specs.Ranges.{line_in_range}
use Rattle.trace_lines.specs.Leads.{led_to}

-- lines that lead from a new machine to a settled state, as a text
pub record IsSettlingText (slots : ℕ) (canvas : Canvas) (ls : List Line) (s : State) : Type 0 where
  pub some_slot : 1 ≤ slots
  pub few_slots : slots ≤ 17
  pub canvas_fits : in_limits canvas ≡ true
  pub lines_fit : list_all line_in_range ls ≡ true
  pub leads : led_to (new_state canvas slots) ls ≡ Some s
  pub settled : is_settled s ≡ true

-- the text is a trace without a fault that leads to that state, and its first line says that number of slots
pub record PrintedReplays : Type 0 where
  pub replays : (slots : ℕ) (canvas : Canvas) (ls : List Line) (s : State) → IsSettlingText slots canvas ls s → replay (trace_lines slots canvas ls) ≡ Ok s
  pub slots : (slots : ℕ) (canvas : Canvas) (ls : List Line) (s : State) → IsSettlingText slots canvas ls s → slots_in (trace_lines slots canvas ls) ≡ Ok slots
