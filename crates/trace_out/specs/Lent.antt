-- Work that was taken out of its place, to be put back changed.
use Rattle.std.specs.Prelude.{◌≡◌, ℕ, ◌-◌, true, false, Option, Some, None, List, [], slice_get, slice_set}
use Rattle.std.specs.List.{list_any, list_all}
use Rattle.geom_core.specs.Grid.{Key, same_key, keys_of, all_keys_of}
use Rattle.geom_core.specs.Keys.{IsWorldKey}
use Rattle.doc_model.specs.Jobs.{writes}
use Rattle.machine_model.specs.State.{State}
use Rattle.machine_model.specs.Groups.{on}
use Rattle.machine_model.specs.Guards.{same_pair}
use Rattle.slot_core.specs.declared.Busy.{Busy}
use Rattle.walker_core.specs.Readings.{path_in}
use Rattle.desk_state.specs.declared.work.Painter.{Painter}
use Rattle.desk_state.specs.declared.work.Walker.{Walker}
use Rattle.desk_state.specs.declared.work.Work.{Work}
use Rattle.desk_state.specs.Enabled.{MayEnd}
use Rattle.desk_state.specs.After.{busy_walker}
use Rattle.walker_core.specs.Composing.{Composition}
use Rattle.desk_events.specs.declared.tickets.SlotId.{SlotId}
use Rattle.desk_events.specs.declared.tickets.PaintTicket.{PaintTicket}
use Rattle.desk_events.specs.declared.tickets.WalkTicket.{WalkTicket}
use Rattle.trace_out.specs.Writing.{IsTied}

-- with the work in its place what is held is what is at work; the place is empty
pub record IsLent (held : List (Option (Busy Work))) (place : ℕ) (b : Busy Work) (s : State) : Type 0 where
  pub tied : IsTied (slice_set held place (Some b)) s
  pub empty : slice_get held place ≡ Some None

-- a job that was just taken, as it is held
abbrev pub taken_job : PaintTicket → Painter
taken_job t = record { serial = t.slot.serial; index = t.job - 1; job = t.work; shot = t.shot; published = [] }

-- a walk that was just taken, as it is held
abbrev pub taken_walk : WalkTicket → Walker
taken_walk t = record { serial = t.slot.serial; inputs = t.inputs; published = [] }

-- the job writes in the tile, and hasn't published it
pub record LacksTile (w : Painter) (key : Key) : Type 0 where
  pub in_job : list_any (same_key key) (all_keys_of (writes w.job)) ≡ true
  pub fresh : list_any (same_key key) w.published ≡ false

-- the job has published all its tiles
abbrev pub HasAllTiles : Painter → Type 0
HasAllTiles w = list_all (λ k. list_any (same_key k) w.published) (all_keys_of (writes w.job)) ≡ true

-- the walk has published all its pairs
abbrev pub HasAllPairs : Walker → Type 0
HasAllPairs w = list_all (λ key. list_all (λ g. list_any (same_pair g key) w.published) (path_in w.inputs)) (keys_of w.inputs.patch.rect) ≡ true

-- the group is one of the walk's, its tile isn't published, and lies in the world and in the walk's patch
pub record LacksPair (w : Walker) (group : ℕ) (key : Key) : Type 0 where
  pub on_path : on group (path_in w.inputs) ≡ true
  pub world : IsWorldKey key
  pub in_patch : list_any (same_key key) (keys_of w.inputs.patch.rect) ≡ true
  pub fresh : list_any (same_pair group key) w.published ≡ false

-- a walk at work, of which that was composed and these pairs are published
abbrev pub walk_of : SlotId → Composition → List (ℕ × Key) → Walker
walk_of slot c published = record { serial = slot.serial; inputs = c.readings; published = published }

-- it was taken out of its place
abbrev pub IsLentWalk : List (Option (Busy Work)) → SlotId → Composition → List (ℕ × Key) → State → Type 0
IsLentWalk held slot c published s = IsLent held slot.place (busy_walker (walk_of slot c published)) s

-- the work with that serial was taken out of that place, and may end
pub record MayEndLent (held : List (Option (Busy Work))) (slot : SlotId) (s : State) : Type 0 where
  pub work : Busy Work
  pub lent : IsLent held slot.place work s
  pub may : MayEnd s slot.place slot.serial
