-- Jobs that may be at work side by side commute.
use Rattle.std.specs.Prelude.{◌≡◌, ◌≢◌, ℕ, ◌<◌, true, false, ◌&&◌, Some, slice_get}
use Rattle.geom_core.specs.Grid.{Key}
use Rattle.doc_model.specs.declared.job.Kind.{Kind}
use Rattle.doc_model.specs.declared.job.Job.{Job}
use Rattle.doc_model.specs.Layers.{Layer}
use Rattle.doc_model.specs.Jobs.{apply}
use Rattle.doc_model.specs.Shots.{published}
use Rattle.doc_model.specs.Strokes.{Jobs, one_run, is_uni}
use Rattle.doc_model.specs.Kept.{kept}
use Rattle.machine_model.specs.State.{State}
use Rattle.machine_model.specs.Event.{Publish}
use Rattle.machine_model.specs.Step.{Step}
use Rattle.machine_model.specs.Sound.{IsOrderly}

-- of the jobs that a stroke may start, two of one run that aren't both uniquely concurrent
pub record AreOfOneRun (jobs : Jobs) (a b : Kind × Job) : Type 0 where
  pub i : ℕ
  pub j : ℕ
  pub before : i < j
  pub first : slice_get (kept jobs) i ≡ Some a
  pub second : slice_get (kept jobs) j ≡ Some b
  pub run : one_run (kept jobs) i j ≡ true
  pub not_both : (is_uni a.0 && is_uni b.0) ≡ false

-- they commute
abbrev pub RunCommutes : Type 0
RunCommutes = (jobs : Jobs) (a b : Kind × Job) (layer : Layer) → AreOfOneRun jobs a b → apply a.1 (apply b.1 layer) ≡ apply b.1 (apply a.1 layer)

-- so do their tiles, whatever they were started with, also where both publish into one tile
abbrev pub RunTilesCommute : Type 0
RunTilesCommute = (jobs : Jobs) (a b : Kind × Job) (shot_a shot_b : Layer) (k l : Key) (layer : Layer) → AreOfOneRun jobs a b
    → published a.1 shot_a k (published b.1 shot_b l layer) ≡ published b.1 shot_b l (published a.1 shot_a k layer)

-- the two publishes may happen the other way round, and leave the same state
pub record OtherWayRound (old new : State) (p q : ℕ) (k l : Key) : Type 0 where
  pub between : State
  pub second_first : Step old (Publish q l) between
  pub first_second : Step between (Publish p k) new

-- so two publishes of jobs at work in different slots do, also where they are into one tile
abbrev pub PublishesCommute : Type 0
PublishesCommute = (old mid new : State) (p q : ℕ) (k l : Key) → IsOrderly old → Step old (Publish p k) mid → Step mid (Publish q l) new → p ≢ q → OtherWayRound old new p q k l
