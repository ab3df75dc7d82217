-- Which events may happen, and what they leave, is told without pixels.
use Rattle.std.specs.Prelude.{◌≡◌, ℕ}
use Rattle.std.specs.Option.{option_map}
use Rattle.machine_model.specs.State.{State}
use Rattle.machine_model.specs.Event.{Event}
use Rattle.machine_model.specs.Next.{next}
use Rattle.machine_model.specs.Replays.{stepped, work_ended, is_settled}
use Rattle.machine_model.specs.Blank.{blank}

-- in states that differ in pixels alone the same events may happen, and leave states that differ in pixels alone
pub record PixelsDontCount : Type 0 where
  pub again : (s : State) → blank (blank s) ≡ blank s
  pub same_next : (s : State) (e : Event) → option_map blank (next (blank s) e) ≡ option_map blank (next s e)
  pub alike : (a b : State) (e : Event) → blank a ≡ blank b → option_map blank (next a e) ≡ option_map blank (next b e)
  pub same_step : (a b : State) → blank a ≡ blank b → option_map blank (stepped a) ≡ option_map blank (stepped b)
  pub same_end : (a b : State) (place : ℕ) → blank a ≡ blank b → option_map blank (work_ended a place) ≡ option_map blank (work_ended b place)
  pub same_settled : (a b : State) → blank a ≡ blank b → is_settled a ≡ is_settled b
