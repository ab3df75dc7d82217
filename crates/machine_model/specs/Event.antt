-- What may happen to the machine.
use Rattle.std.specs.Prelude.{ℕ}
use Rattle.geom_core.specs.Grid.{Key}
use Rattle.doc_model.specs.declared.command.Command.{Command}
use Rattle.doc_model.specs.declared.canvas.Patch.{Patch}

-- a place is one of the slots; a walk starts with a queued patch
pub data Event : Type 0 where
  Feed : Command → Event
  Init : Event
  Start : ℕ → Event
  Publish : ℕ → Key → Event
  End : ℕ → Event
  Finish : Event
  Cancel : Event
  Act : Event
  WalkStart : ℕ → Patch → Event
  WalkPublish : ℕ → ℕ → Key → Event
  WalkEnd : ℕ → Event
