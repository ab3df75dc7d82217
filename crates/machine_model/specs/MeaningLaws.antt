-- Once all is settled, the state is what the fed commands mean; and it gets there.
use Rattle.std.specs.Prelude.{◌≡◌, Bool, true, false, Option, Some, None, List}
use Rattle.doc_model.specs.Strokes.{Stroke, entries, is_open}
use Rattle.doc_model.specs.Meaning.{meaning}
use Rattle.machine_model.specs.State.{State, head_stroke}
use Rattle.machine_model.specs.Settled.{story, IsSettled}
use Rattle.machine_model.specs.Event.{Event, Feed}
use Rattle.machine_model.specs.Step.{Step}
use Rattle.machine_model.specs.Sound.{IsOrderly}
use Rattle.machine_model.specs.SoundnessLaws.{IsReached}

-- past, base, future, frames and outcomes are what the fed commands mean one after another, and present is base
pub record HasMeaning (s : State) : Type 0 where
  pub means : meaning s.canvas (entries s.fed) ≡ story s
  pub present : s.present ≡ s.base

-- an orderly state that is settled is what the fed commands mean
abbrev pub SettledHasMeaning : Type 0
SettledHasMeaning = (s : State) → IsOrderly s → IsSettled s → HasMeaning s

-- whatever happened and in whatever order, once all is settled the state is what the fed commands mean
abbrev pub RunsHaveMeaning : Type 0
RunsHaveMeaning = (events : List Event) (s : State) → IsReached events s → IsSettled s → HasMeaning s

-- whether a command is fed
abbrev pub is_feed : Event → Bool
is_feed (Feed c) = true
is_feed e = false

-- whether the head is a stroke that is still open
abbrev pub waits_for_commands : State → Bool
waits_for_commands s = open_stroke (head_stroke s)
  where
    open_stroke : Option Stroke → Bool
    open_stroke None = false
    open_stroke (Some stroke) = is_open stroke.fate

-- an event other than Feed may happen
pub record MayGoOn (s : State) : Type 0 where
  pub event : Event
  pub not_feed : is_feed event ≡ false
  pub new : State
  pub step : Step s event new

-- a state that is not settled, and whose head is not a stroke that is still open, goes on
abbrev pub NoDeadEnd : Type 0
NoDeadEnd = (s : State) → IsOrderly s → (IsSettled s → ⊥) → waits_for_commands s ≡ false → MayGoOn s
