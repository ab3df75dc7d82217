-- When an event may happen, and what a desk takes of what was made outside.
use Rattle.std.specs.Prelude.{◌≡◌, ◌==◌, ℕ, Bool, true, false, List, Option, Some, None, map, slice_get}
use Rattle.std.specs.List.{list_any, list_all}
use Rattle.geom_core.specs.Areas.{lies_in}
use Rattle.geom_core.specs.Grid.{Key, same_key, keys_of, all_keys_of}
use Rattle.doc_model.specs.Jobs.{reads, writes}
use Rattle.doc_model.specs.Laws.{SameOn}
use Rattle.job_core.specs.Paints.{Paint, layer_of}
use Rattle.machine_model.specs.State.{Child, Painter, Walker, State, Slot, Free, Paints, Walks}
use Rattle.machine_model.specs.Event.{Event, End, WalkEnd}
use Rattle.machine_model.specs.Groups.{on}
use Rattle.machine_model.specs.Guards.{same_pair}
use Rattle.machine_model.specs.Step.{Step}
use Rattle.walker_core.specs.Readings.{readings}
use Rattle.walker_core.specs.Sameness.{ReadTheSame}
use Rattle.walker_core.specs.Composing.{Composition, has_pair}

-- the event may happen
abbrev pub Enabled : State → Event → Type 0
Enabled s e = (new : State) × Step s e new

-- the job with that serial is at work in the slot, writes in the tile that was painted, and hasn't published it; and what was painted is of this job, from a shot of its reads with the same default pixel and the same pixels there
pub record Takes (s : State) (place serial : ℕ) (p : Paint) : Type 0 where
  pub painter : Painter
  pub runs : slice_get s.slots place ≡ Some (Paints painter)
  pub drawn : painter.serial ≡ serial
  pub in_job : list_any (same_key p.key) (all_keys_of (writes painter.job)) ≡ true
  pub fresh : list_any (same_key p.key) painter.published ≡ false
  pub job : p.job ≡ painter.job
  pub covers : list_all (λ a. list_any (lies_in a) p.shot.rects) (reads painter.job) ≡ true
  pub same : SameOn (reads painter.job) (layer_of p.shot) painter.shot

-- the walk with that serial is at work in the slot, composes the group, its patch meets the tile, and it hasn't published that pair; and the pair was composed, of the same as the walk reads there
pub record TakesWalk (s : State) (place serial : ℕ) (c : Composition) (group : ℕ) (key : Key) : Type 0 where
  pub walker : Walker
  pub runs : slice_get s.slots place ≡ Some (Walks walker)
  pub drawn : walker.serial ≡ serial
  pub on_path : on group (map (λ (e : ℕ × List Child). e.0) walker.shot) ≡ true
  pub in_patch : list_any (same_key key) (keys_of walker.patch.rect) ≡ true
  pub fresh : list_any (same_pair group key) walker.published ≡ false
  pub composed : has_pair c group key ≡ true
  pub same : ReadTheSame (readings walker.patch walker.shot) c.readings key

-- the serial of the work in a slot
abbrev pub serial_of : Slot → Option ℕ
serial_of Free = None
serial_of (Paints w) = Some w.serial
serial_of (Walks w) = Some w.serial

-- whether the event is an end of the work in that slot
abbrev pub ends : ℕ → Event → Bool
ends place (End p) = p == place
ends place (WalkEnd p) = p == place
ends place e = false

-- the work in the slot ended: a job or a walk
abbrev pub IsEnd : State → ℕ → State → Type 0
IsEnd old place new = (event : Event) × (ends place event ≡ true) × Step old event new

-- the work with that serial is in the slot, and may end
pub record MayEnd (s : State) (place serial : ℕ) : Type 0 where
  pub slot : Slot
  pub here : slice_get s.slots place ≡ Some slot
  pub drawn : serial_of slot ≡ Some serial
  pub event : Event
  pub is_end : ends place event ≡ true
  pub enabled : Enabled s event
