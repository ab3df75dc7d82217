-- What is answered to a trace.
use Rattle.std.specs.Prelude.{◌≡◌, ℕ, ◌+◌, ◌≤◌, true, Result, Ok, Err, List, length}
use Rattle.doc_model.specs.declared.canvas.Canvas.{Canvas}
use Rattle.doc_model.specs.Canvases.{IsOfLimits}
use Rattle.script_forms.specs.Jobs.{Fields}
use Rattle.script_forms.specs.Ranges.{in_limits}
use Rattle.script_text.specs.Script.{Contents}
use Rattle.machine_model.specs.State.{State, new_state}
use Rattle.trace_lines.specs.Replay.{Told, and_then, follow, settled, replayed, script_in}
use Rattle.trace_lines.specs.ReplayLaws.{IsRunThatSettles}
use Rattle.trace_core.specs.declared.refusal.ReplayRefusal.{ReplayRefusal}
use Rattle.trace_core.specs.Following.{IsRefused}
use Rattle.trace_core.specs.Outline.{Outline, outline}

-- the state that a trace leads to, which a run that settles has left, with its canvas and its fed commands
pub record IsReplayed (told : Told State) (script : Contents) : Type 0 where
  pub state : State
  pub told_is : told ≡ Ok state
  pub run : IsRunThatSettles state
  pub script_is : script ≡ script_in state

-- that of the last state, or the first fault; want of memory says nothing
abbrev pub Answers : Result Contents ReplayRefusal → Told State → Type 0
Answers (Ok script) told = IsReplayed told script
Answers (Err e) told = IsRefused e told

-- the first two lines give a canvas and a number of slots, and with them a new state, which the lines behind them are to lead on
pub record IsBegun (o : Outline) (of : Canvas) (behind ls : List Fields) : Type 0 where
  pub slots : ℕ
  pub in_limits : in_limits of ≡ true
  pub of_limits : IsOfLimits of
  pub some : 1 ≤ slots
  pub few : slots ≤ 17
  pub outline_is : o ≡ outline (new_state of slots)
  pub number : length ls ≡ length behind + 2
  pub replayed : replayed ls ≡ and_then (follow 3 (new_state of slots) behind) (λ t. settled (length behind + 2) t)
