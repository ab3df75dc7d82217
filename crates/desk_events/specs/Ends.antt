-- Work that may end.
use Rattle.std.specs.Prelude.{◌≡◌, ℕ, Some, slice_get}
use Rattle.machine_model.specs.State.{State, Painter, Walker, Paints, Walks}
use Rattle.machine_model.specs.Event.{End, WalkEnd}
use Rattle.desk_state.specs.Enabled.{Enabled}

-- the job with that serial is at work in the slot, and may end
pub record JobMayEnd (s : State) (place serial : ℕ) : Type 0 where
  pub painter : Painter
  pub runs : slice_get s.slots place ≡ Some (Paints painter)
  pub drawn : painter.serial ≡ serial
  pub enabled : Enabled s (End place)

-- the walk with that serial is at work in the slot, and may end
pub record WalkMayEnd (s : State) (place serial : ℕ) : Type 0 where
  pub walker : Walker
  pub runs : slice_get s.slots place ≡ Some (Walks walker)
  pub drawn : walker.serial ≡ serial
  pub enabled : Enabled s (WalkEnd place)
