-- What holds of every state that the machine can reach, and of every run.
use Rattle.std.specs.Prelude.{◌≡◌, ℕ, ◌≤◌, List, [], ◌∷◌, ◌++◌, length}
use Rattle.doc_model.specs.declared.canvas.Canvas.{Canvas}
use Rattle.doc_model.specs.declared.command.Command.{Command}
use Rattle.doc_model.specs.declared.command.Outcome.{Outcome}
use Rattle.doc_model.specs.Picture.{Frame}
use Rattle.machine_model.specs.State.{State, new_state}
use Rattle.machine_model.specs.Event.{Event, Feed}
use Rattle.machine_model.specs.Step.{Step, Run}
use Rattle.doc_model.specs.Canvases.{IsOfLimits}
use Rattle.machine_model.specs.Sound.{IsOrderly, IsSound}

-- a new machine has a canvas of the limits and 1 to 17 slots
pub record IsNew (s : State) : Type 0 where
  pub canvas : Canvas
  pub slots : ℕ
  pub of_limits : IsOfLimits canvas
  pub some_slot : 1 ≤ slots
  pub few_slots : slots ≤ 17
  pub is : s ≡ new_state canvas slots

-- a new machine is sound
abbrev pub NewIsSound : Type 0
NewIsSound = (s : State) → IsNew s → IsSound s

-- every event keeps the machine orderly
abbrev pub StepKeepsOrder : Type 0
StepKeepsOrder = (old new : State) (event : Event) → IsOrderly old → Step old event new → IsOrderly new

-- every event keeps the machine sound
abbrev pub StepKeepsSound : Type 0
StepKeepsSound = (old new : State) (event : Event) → IsSound old → Step old event new → IsSound new

-- these events lead from a new machine to the state
pub record IsReached (events : List Event) (s : State) : Type 0 where
  pub start : State
  pub new : IsNew start
  pub run : Run start events s

-- whatever happens, the machine is orderly
abbrev pub RunsAreOrderly : Type 0
RunsAreOrderly = (events : List Event) (s : State) → IsReached events s → IsOrderly s

-- whatever happens, the machine is sound
abbrev pub RunsAreSound : Type 0
RunsAreSound = (events : List Event) (s : State) → IsReached events s → IsSound s

-- the commands that are fed by these events
abbrev pub fed_by : List Event → List Command
fed_by [] = []
fed_by (Feed c ∷ events) = c ∷ fed_by events
fed_by (e ∷ events) = fed_by events

-- the canvas and the number of slots stay, what is fed joins the commands, no outcome or frame is taken back, and the next serial never falls
pub record Continues (commands : List Command) (old new : State) : Type 0 where
  pub canvas : new.canvas ≡ old.canvas
  pub slots : length new.slots ≡ length old.slots
  pub fed : new.fed ≡ old.fed ++ commands
  pub outcomes : (more : List Outcome) × (new.outcomes ≡ old.outcomes ++ more)
  pub frames : (more : List Frame) × (new.frames ≡ old.frames ++ more)
  pub serials : old.next ≤ new.next

-- every run goes on from what was there
abbrev pub RunsContinue : Type 0
RunsContinue = (events : List Event) (old new : State) → Run old events new → Continues (fed_by events) old new
