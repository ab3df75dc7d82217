-- Every run ends where nothing more is fed.
use Rattle.std.specs.Prelude.{◌≡◌, ◌<◌, ◌≤◌, true, false, not, List, length}
use Rattle.std.specs.List.{list_all}
use Rattle.machine_model.specs.State.{State}
use Rattle.machine_model.specs.Event.{Event}
use Rattle.machine_model.specs.Step.{Step, Run}
use Rattle.machine_model.specs.MeaningLaws.{is_feed}
use Rattle.machine_model.specs.Sound.{IsOrderly}
use Rattle.machine_model.specs.Remaining.{left}

-- every event but Feed leaves fewer
abbrev pub EventsAreSpent : Type 0
EventsAreSpent = (old new : State) (event : Event) → IsOrderly old → Step old event new → is_feed event ≡ false → left new < left old

-- so no run without Feed has more events than are left when it begins
abbrev pub RunsEnd : Type 0
RunsEnd = (events : List Event) (old new : State) → IsOrderly old → Run old events new → list_all (λ e. not (is_feed e)) events ≡ true → length events ≤ left old
