-- Runs that settle a desk.
use Rattle.std.specs.Prelude.{◌≡◌, ◌≤◌, true, List, not, length}
use Rattle.std.specs.List.{list_all}
use Rattle.machine_model.specs.State.{State}
use Rattle.machine_model.specs.Event.{Event}
use Rattle.machine_model.specs.Step.{Run}
use Rattle.machine_model.specs.MeaningLaws.{is_feed}

-- events other than feeding happened, one after another
pub record Settles (old new : State) : Type 0 where
  pub events : List Event
  pub no_feed : list_all (λ e. not (is_feed e)) events ≡ true
  pub run : Run old events new

-- so they did, and at least one
pub record GoesOn (old new : State) : Type 0 where
  pub settles : Settles old new
  pub some : 1 ≤ length settles.events
