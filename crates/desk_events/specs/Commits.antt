-- Whole jobs, and tiles of walks of all their groups, that come to a desk in one hold.
use Rattle.std.specs.Prelude.{◌≡◌, ◌<◌, ℕ, All, true, false, Option, Some, List, [], ◌∷◌, length, map, take, slice_get}
use Rattle.std.specs.List.{list_any}
use Rattle.geom_core.specs.Grid.{Key, same_key, all_keys_of}
use Rattle.doc_model.specs.Jobs.{writes}
use Rattle.whole_tiles.specs.Wholes.{Entire}
use Rattle.machine_model.specs.State.{State, Child, Painter, Walker, Slot, Paints, Walks}
use Rattle.machine_model.specs.Event.{Event, WalkPublish}
use Rattle.machine_model.specs.Step.{Run}
use Rattle.walker_core.specs.Readings.{readings}
use Rattle.walker_core.specs.Sameness.{ReadTheSame}
use Rattle.walker_core.specs.Composing.{Composition}
use Rattle.slot_work.specs.Lacking.{IsOfJob, AreLacking}
use Rattle.slot_work.specs.LaidTiles.{lacking, pairs_at}
use Rattle.slot_work.specs.OfWalk.{IsRowOfWalk, ReadsAlike}

-- if the job with that serial is at work in the slot, each of the tiles was made of it and from the pixels that it was started with
abbrev pub AreOfWork : State → ℕ → ℕ → List Entire → Type 0
AreOfWork s place serial tiles = (w : Painter) → slice_get s.slots place ≡ Some (Paints w) → w.serial ≡ serial → All (IsOfJob w.job w.shot) tiles

-- the job with that serial is at work in the slot, and so it is of these tiles
pub record HasMade (s : State) (place serial : ℕ) (tiles : List Entire) : Type 0 where
  pub painter : Painter
  pub runs : slice_get s.slots place ≡ Some (Paints painter)
  pub drawn : painter.serial ≡ serial
  pub made : All (IsOfJob painter.job painter.shot) tiles

-- the job with that serial is at work in the slot, and the tiles are just those that it lacks, made of it and from the pixels that it was started with
pub record MayCommit (s : State) (place serial : ℕ) (tiles : List Entire) : Type 0 where
  pub painter : Painter
  pub runs : slice_get s.slots place ≡ Some (Paints painter)
  pub drawn : painter.serial ≡ serial
  pub lacking : AreLacking painter.job painter.shot painter.published tiles

-- a job is at work in the slot, and lacks this tile, which was made of it and from the pixels that it was started with
pub record TakesWhole (s : State) (place : ℕ) (x : Entire) : Type 0 where
  pub painter : Painter
  pub runs : slice_get s.slots place ≡ Some (Paints painter)
  pub of : IsOfJob painter.job painter.shot x
  pub in_job : list_any (same_key x.key) (all_keys_of (writes painter.job)) ≡ true
  pub fresh : list_any (same_key x.key) painter.published ≡ false

-- some of the events happened, from the front on, or none did; not all
pub record RunsFront (old : State) (events : List Event) (new : State) : Type 0 where
  pub count : ℕ
  pub short : count < length events
  pub run : Run old (take count events) new

-- the walk in the slot publishes these pairs, one after another
abbrev pub pair_events : ℕ → List (ℕ × Key) → List Event
pair_events place [] = []
pair_events place (p ∷ ps) = WalkPublish place p.0 p.1 ∷ pair_events place ps

-- if the walk with that serial is at work in the slot, what was composed read the same in the tile
abbrev pub ReadsAsWork : State → ℕ → ℕ → Composition → Key → Type 0
ReadsAsWork s place serial c key = (w : Walker) → slice_get s.slots place ≡ Some (Walks w) → w.serial ≡ serial → ReadTheSame (readings w.patch w.shot) c.readings key

-- the walk with that serial is at work in the slot, its patch has points in the tile, and what was composed read the same there
pub record HasRead (s : State) (place serial : ℕ) (c : Composition) (key : Key) : Type 0 where
  pub walker : Walker
  pub runs : slice_get s.slots place ≡ Some (Walks walker)
  pub drawn : walker.serial ≡ serial
  pub alike : ReadsAlike (readings walker.patch walker.shot) c key

-- the walk with that serial is at work in the slot, its patch has points in the tile, and all its groups were composed there, of the same as the walk reads
pub record MayPublishRow (s : State) (place serial : ℕ) (c : Composition) (key : Key) : Type 0 where
  pub walker : Walker
  pub runs : slice_get s.slots place ≡ Some (Walks walker)
  pub drawn : walker.serial ≡ serial
  pub of : IsRowOfWalk (readings walker.patch walker.shot) c key

-- the pairs of a group and that tile that the walk in a slot hasn't published, in the order of its path
abbrev pub lacking_at : Option Slot → Key → List (ℕ × Key)
lacking_at (Some (Walks w)) key = lacking w.published (pairs_at (map (λ (e : ℕ × List Child). e.0) w.shot) key)
lacking_at slot key = []

-- the walk in the slot publishes those
abbrev pub row_events : State → ℕ → Key → List Event
row_events s place key = pair_events place (lacking_at (slice_get s.slots place) key)
