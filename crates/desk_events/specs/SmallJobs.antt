-- Jobs that write within one tile alone, painted in place without tickets.
use Rattle.std.specs.Prelude.{All, ◌≡◌, ◌≤◌, ℕ, suc, zero, true, false, Some, List, [], ◌∷◌, take, length, slice_get}
use Rattle.geom_core.specs.Areas.{Area, holds, Point}
use Rattle.geom_core.specs.Grid.{Key, tile}
use Rattle.geom_core.specs.Keys.{IsWorldKey}
use Rattle.geom_core.specs.Laws.{AllIn}
use Rattle.geom_core.specs.Rects.{any_holds}
use Rattle.doc_model.specs.declared.job.Job.{Job}
use Rattle.doc_model.specs.declared.job.Kind.{Kind}
use Rattle.doc_model.specs.Jobs.{writes}
use Rattle.doc_model.specs.Strokes.{Jobs}
use Rattle.job_core.specs.Points.{IsPointJob, is_within, spot}
use Rattle.desk_steps.specs.Archives.{Archive, with_painted}
use Rattle.machine_model.specs.State.{State}
use Rattle.machine_model.specs.Event.{Event, Start, Publish, End}
use Rattle.machine_model.specs.Slots.{no_painter}
use Rattle.machine_model.specs.Step.{Run}
use Rattle.machine_model.specs.Guards.{is_bar}
use Rattle.desk_state.specs.Enabled.{Enabled}
use Rattle.desk_events.specs.declared.small_jobs.Laid.{Laid}

-- so many jobs, one after another: each starts in the slot, publishes the tile and ends
abbrev pub small_events : ℕ → Key → ℕ → List Event
small_events place key zero = []
small_events place key (suc n) = Start place ∷ Publish place key ∷ End place ∷ small_events place key n

-- each point that the job writes lies in the rectangle
abbrev pub WritesWithin : Area → Job → Type 0
WritesWithin bound job = (p : Point) → any_holds (writes job) p ≡ true → holds bound p ≡ true

-- so it is of each of the jobs, and the rectangle lies in any other such one
pub record IsLeastRound (jobs : Jobs) (bound : Area) : Type 0 where
  pub within : All (λ (j : Kind × Job). WritesWithin bound j.1) jobs
  pub least : (a : Area) → All (λ (j : Kind × Job). WritesWithin a j.1) jobs → AllIn bound a

-- each job that starts in such a run writes in the rectangle alone
abbrev pub StartsWithin : (bound : Area) (place : ℕ) (key : Key) (n : ℕ) (old new : State) → Run old (small_events place key n) new → Type 0
StartsWithin bound place key zero old new run = Unit {0}
StartsWithin bound place key (suc n) old new run = WritesWithin bound run.1.job.1 × StartsWithin bound place key n run.2.2.0 new run.2.2.2

-- no job was at work, and some of the stroke at the head, the next one first, were painted so; the rectangle is the least round all that they write
pub record PaintsSmall (old : State) (bound : Area) (new : State) : Type 0 where
  pub place : ℕ
  pub key : Key
  pub count : ℕ
  pub idle : no_painter old ≡ true
  pub some : 1 ≤ count
  pub run : Run old (small_events place key count) new
  pub within : StartsWithin bound place key count old new run
  pub least : (a : Area) → StartsWithin a place key count old new run → AllIn bound a

-- the next job may start, and no job is at work
pub record IsAlone (s : State) : Type 0 where
  pub place : ℕ
  pub enabled : Enabled s (Start place)
  pub idle : no_painter s ≡ true

-- none of the jobs behind the first is a barrier
abbrev pub NoBarBehind : Jobs → Type 0
NoBarBehind jobs = (i : ℕ) (j : Kind × Job) → slice_get jobs (suc i) ≡ Some j → is_bar j.0 ≡ false

-- so many of the jobs, from the first on, write within the tile alone, and were painted there
pub record LaysRun (jobs : Jobs) (laid : Laid) (old new : Archive) : Type 0 where
  pub some : 1 ≤ laid.count
  pub few : laid.count ≤ length jobs
  pub world : IsWorldKey laid.key
  pub each : All (λ j. IsPointJob laid.key j.1) (take laid.count jobs)
  pub within : All (λ j. is_within (tile laid.key) j.1 ≡ true) (take laid.count jobs)
  pub new_is : new ≡ with_painted old.way (spot (take laid.count jobs) laid.key) old
