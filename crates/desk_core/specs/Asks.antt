-- What a crew asks of a desk.
use Rattle.std.specs.Prelude.{◌≡◌, true}
use Rattle.machine_model.specs.State.{State}
use Rattle.machine_model.specs.Event.{Event}
use Rattle.desk_state.specs.Choices.{of_head}
use Rattle.desk_state.specs.Enabled.{Enabled}

-- an event of the entry at the head may happen
abbrev pub HeadMayGo : State → Type 0
HeadMayGo s = (e : Event) × (of_head e ≡ true) × Enabled s e
