-- What a scribe does.
use Rattle.std.specs.Prelude.{◌≡◌, ℕ, true, List}
use Rattle.std.specs.List.{list_all}
use Rattle.machine_model.specs.State.{State, is_free}
use Rattle.machine_model.specs.Settled.{IsSettled}
use Rattle.desk_state.specs.Choices.{IsIdle}
use Rattle.desk_state.specs.Settles.{Settles, GoesOn}
use Rattle.trace_out.specs.declared.scribe.Scribe.{Scribe}
use Rattle.trace_out.specs.Writing.{IsTied, Writes}

-- any number of events but feeding happened, and were added to the text
pub record SettlesPutting (old : State) (before : List ℕ) (new : State) (after : List ℕ) : Type 0 where
  pub settles : Settles old new
  pub writes : Writes old before new after

-- the same of at least one event
pub record GoesOnPutting (old : State) (before : List ℕ) (new : State) (after : List ℕ) : Type 0 where
  pub goes : GoesOn old new
  pub writes : Writes old before new after

-- any number of events but feeding happened and were added to the text, and what is held is what is at work
pub record SettlesWriting (old : State) (before : List ℕ) (new : Scribe) : Type 0 where
  pub puts : SettlesPutting old before new.desk new.out.items
  pub tied : IsTied new.held new.desk

-- the same of at least one event
pub record GoesOnWriting (old : State) (before : List ℕ) (new : Scribe) : Type 0 where
  pub puts : GoesOnPutting old before new.desk new.out.items
  pub tied : IsTied new.held new.desk

-- nothing is at work, and nothing is left to do or nothing may happen before commands come
pub record MayRest (s : State) : Type 0 where
  pub free : list_all is_free s.slots ≡ true
  pub waits : (IsSettled s → ⊥) → IsIdle s
