-- What the work in a slot lacks.
use Rattle.std.specs.Prelude.{◌≡◌, ℕ, Bool, true, false, List, slice_get, IsSomeAnd}
use Rattle.std.specs.List.{list_all}
use Rattle.geom_core.specs.Grid.{Key}
use Rattle.geom_core.specs.Keys.{IsWorldKey}
use Rattle.machine_model.specs.State.{State, is_free}
use Rattle.machine_model.specs.Event.{Event, Publish, End, WalkPublish, WalkEnd}
use Rattle.machine_model.specs.Step.{Run}
use Rattle.desk_events.specs.declared.own_work.Lack.{Lack}
use Rattle.desk_events.specs.declared.own_work.Lack.TheVariants as lack
use Rattle.desk_state.specs.Enabled.{Enabled}

-- something is at work in the slot
abbrev pub IsBusy : State → ℕ → Type 0
IsBusy s place = IsSomeAnd (slice_get s.slots place) (λ slot. is_free slot ≡ false)

-- the walk in the slot may publish the tile of some group
pub record WalkLacks (s : State) (place : ℕ) (key : Key) : Type 0 where
  pub world : IsWorldKey key
  pub group : ℕ
  pub enabled : Enabled s (WalkPublish place group key)

-- the work may publish this tile, or may end
abbrev pub IsLack : State → ℕ → Lack → Type 0
IsLack s place (lack.Tile key) = Enabled s (Publish place key)
IsLack s place (lack.Groups key) = WalkLacks s place key
IsLack s place lack.JobEnd = Enabled s (End place)
IsLack s place lack.WalkEnd = Enabled s (WalkEnd place)

-- whether a walk publishes a tile
abbrev pub is_walk_publish : Event → Bool
is_walk_publish (WalkPublish place g key) = true
is_walk_publish e = false

-- tiles of walks were published, one after another
pub record WalksOn (old new : State) : Type 0 where
  pub events : List Event
  pub walks : list_all is_walk_publish events ≡ true
  pub run : Run old events new
