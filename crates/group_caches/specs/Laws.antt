-- What ties the caches to the machine.
use Rattle.std.specs.Prelude.{◌≡◌, ℕ}
use Rattle.geom_core.specs.Grid.{Key}
use Rattle.machine_model.specs.State.{State}
use Rattle.machine_model.specs.Step.{WalkPublishStep}
use Rattle.machine_model.specs.Walks.{walk_value}
use Rattle.group_caches.specs.Kept.{with_picture}

-- the event that publishes a tile of a group leaves the walk's picture in that group's cache
abbrev pub PublishLeaves : Type 0
PublishLeaves = (old new : State) (place g : ℕ) (key : Key) (step : WalkPublishStep old place g key new) → new.caches ≡ with_picture old.caches g step.walker.patch.rect key (walk_value step.walker.shot g)
