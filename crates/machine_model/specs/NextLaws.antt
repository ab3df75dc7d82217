-- The function and the relation of steps are one, and which events exclude each other.
use Rattle.std.specs.Prelude.{◌≡◌, ℕ, true, false, Bool, Some, List, ◌⊎◌}
use Rattle.doc_model.specs.Queues.{all_unlike}
use Rattle.machine_model.specs.State.{State}
use Rattle.machine_model.specs.Settled.{IsSettled}
use Rattle.machine_model.specs.Event.{Event, Feed, Init, Start, Publish, End, Finish, Cancel, Act, WalkStart, WalkPublish, WalkEnd}
use Rattle.machine_model.specs.Step.{Step}
use Rattle.machine_model.specs.SoundnessLaws.{IsReached}
use Rattle.machine_model.specs.Next.{next}
use Rattle.machine_model.specs.Replays.{stepped, work_ended, is_settled}

-- what the function gives is a step, and each step is what it gives, where no two patches that wait have the same walk and cell, as in every state that a new machine reaches
pub record StepsAreNext : Type 0 where
  pub gives_step : (s : State) (e : Event) (t : State) → next s e ≡ Some t → Step s e t
  pub step_given : (s : State) (e : Event) (t : State) → all_unlike s.updates ≡ true → Step s e t → next s e ≡ Some t
  pub reached : (events : List Event) (s : State) (e : Event) (t : State) → IsReached events s → Step s e t → next s e ≡ Some t

-- whether it is one of the events on the entry at the head as a whole
abbrev pub is_turn : Event → Bool
is_turn (Feed c) = false
is_turn Init = true
is_turn (Start place) = false
is_turn (Publish place key) = false
is_turn (End place) = false
is_turn Finish = true
is_turn Cancel = true
is_turn Act = true
is_turn (WalkStart place patch) = false
is_turn (WalkPublish place g key) = false
is_turn (WalkEnd place) = false

-- in no state may two of them happen
abbrev pub TurnsExclude : Type 0
TurnsExclude = (s t u : State) (e f : Event) → is_turn e ≡ true → is_turn f ≡ true → Step s e t → Step s f u → e ≡ f

-- what a trace calls a step is the one of them that may happen, and its end of work is that of a job or that of a walk
pub record TurnsAreSteps : Type 0 where
  pub turn : (s t : State) → stepped s ≡ Some t → (e : Event) × (is_turn e ≡ true) × Step s e t
  pub turn_taken : (s t : State) (e : Event) → is_turn e ≡ true → Step s e t → stepped s ≡ Some t
  pub end : (s t : State) (place : ℕ) → work_ended s place ≡ Some t → Step s (End place) t ⊎ Step s (WalkEnd place) t
  pub end_taken : (s t : State) (place : ℕ) → Step s (End place) t ⊎ Step s (WalkEnd place) t → work_ended s place ≡ Some t

-- the test of a settled state
pub record SettledTells : Type 0 where
  pub settled : (s : State) → is_settled s ≡ true → IsSettled s
  pub told : (s : State) → IsSettled s → is_settled s ≡ true
