-- What is counted: the slots, their serials, and what they have published.
use Rattle.std.specs.Prelude.{◌≡◌, ◌≢◌, ℕ, suc, zero, if◌then◌else◌, ◌+◌, ◌*◌, ◌<◌, ◌≤◌, Bool, true, ◌&&◌, not, Option, Some, None, List, [], ◌∷◌, map, length, take}
use Rattle.std.specs.List.{list_any, AllByRecursion}
use Rattle.geom_core.specs.Grid.{Key, same_key, keys_of, all_keys_of}
use Rattle.doc_model.specs.Canvases.{IsOfLimits}
use Rattle.doc_model.specs.Jobs.{writes}
use Rattle.doc_model.specs.Strokes.{Entry, Strokes, entries}
use Rattle.machine_model.specs.State.{Child, Slot, Free, Paints, Walks, State}
use Rattle.machine_model.specs.Painters.{runs_in}
use Rattle.machine_model.specs.Groups.{on}
use Rattle.machine_model.specs.Guards.{same_pair}

-- the serial of a busy slot
abbrev pub serial_of : Slot → Option ℕ
serial_of Free = None
serial_of (Paints w) = Some w.serial
serial_of (Walks w) = Some w.serial

-- the slot's serial is below the next one
abbrev pub SerialBelow : ℕ → Slot → Type 0
SerialBelow n (Paints w) = w.serial < n
SerialBelow n (Walks w) = w.serial < n
SerialBelow n Free = Unit {0}

-- the tiles that a slot has published are different ones of its own work
abbrev pub distinct_keys : List Key → Bool
distinct_keys [] = true
distinct_keys (k ∷ ks) = not (list_any (same_key k) ks) && distinct_keys ks

-- whether no pair stands twice
abbrev pub distinct_pairs : List (ℕ × Key) → Bool
distinct_pairs [] = true
distinct_pairs (e ∷ es) = not (list_any (same_pair e.0 e.1) es) && distinct_pairs es

-- the slot has published different tiles of its own work
abbrev pub PublishedOwn : Slot → Type 0
PublishedOwn Free = Unit {0}
PublishedOwn (Paints w) = (distinct_keys w.published ≡ true) × AllByRecursion (λ key. list_any (same_key key) (all_keys_of (writes w.job)) ≡ true) w.published
PublishedOwn (Walks w) = (distinct_pairs w.published ≡ true)
    × AllByRecursion (λ (e : ℕ × Key). (on e.0 (map (λ (g : ℕ × List Child). g.0) w.shot) ≡ true) × (list_any (same_key e.1) (keys_of w.patch.rect) ≡ true)) w.published

-- the slot doesn't hold that serial
abbrev pub HasNot : Option ℕ → Slot → Type 0
HasNot None slot = Unit {0}
HasNot (Some n) slot = serial_of slot ≢ Some n

-- serials of busy slots differ
abbrev pub SerialsDiffer : List Slot → Type 0
SerialsDiffer [] = Unit {0}
SerialsDiffer (slot ∷ slots) = AllByRecursion (HasNot (serial_of slot)) slots × SerialsDiffer slots

-- the number of jobs of the strokes among the entries
abbrev pub jobs_in : List Entry → ℕ
jobs_in [] = 0
jobs_in (Strokes stroke ∷ es) = length stroke.jobs + jobs_in es
jobs_in (e ∷ es) = jobs_in es

-- the number of running jobs
abbrev pub painters : List Slot → ℕ
painters [] = 0
painters (Free ∷ slots) = painters slots
painters (Walks w ∷ slots) = painters slots
painters (Paints w ∷ slots) = suc (painters slots)

-- how many of the first n jobs no slot holds
abbrev pub ended : List Slot → ℕ → ℕ
ended slots zero = 0
ended slots (suc n) = (if runs_in n slots then 0 else 1) + ended slots n

-- the number of ended jobs of the stroke under way
abbrev pub ended_jobs : List Slot → Option ℕ → ℕ
ended_jobs slots None = 0
ended_jobs slots (Some n) = ended slots n

-- the counts
pub record Counted (s : State) : Type 0 where
  pub canvas : IsOfLimits s.canvas
  pub slots : (1 ≤ length s.slots) × (length s.slots ≤ 17)
  pub below : AllByRecursion (SerialBelow s.next) s.slots
  pub differ : SerialsDiffer s.slots
  pub own : AllByRecursion PublishedOwn s.slots
  pub budget : s.next + length s.updates
      ≤ 65 * jobs_in (take (length s.outcomes) (entries s.fed)) + 65 * ended_jobs s.slots s.way + painters s.slots + 64 * length s.outcomes
