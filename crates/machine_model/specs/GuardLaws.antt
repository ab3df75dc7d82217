-- Who is never at work beside whom.
use Rattle.std.specs.Prelude.{◌≡◌, ◌≢◌, ℕ, true, false, ◌&&◌, Some, List, [], slice_get}
use Rattle.geom_core.specs.Areas.{meets}
use Rattle.doc_model.specs.declared.job.Job.{Job}
use Rattle.doc_model.specs.declared.job.Kind.{Kind}
use Rattle.doc_model.specs.declared.job.Kind.TheVariants.{Bar}
use Rattle.doc_model.specs.Strokes.{Stroke, Exports, runs, is_uni}
use Rattle.machine_model.specs.State.{Painter, Walker, Free, Paints, Walks, State, head, head_stroke}
use Rattle.machine_model.specs.Event.{Event, Start, Act}
use Rattle.machine_model.specs.Slots.{no_painter, no_walker}
use Rattle.machine_model.specs.Guards.{kept_jobs, is_cancelled, overlaps}
use Rattle.machine_model.specs.Step.{Step}
use Rattle.machine_model.specs.Sound.{IsOrderly}
use Rattle.machine_model.specs.SoundnessLaws.{IsReached}

-- a job of that kind of the stroke at the head is at work in the slot
pub record RunsAs (s : State) (place : ℕ) (kind : Kind) : Type 0 where
  pub painter : Painter
  pub at_work : slice_get s.slots place ≡ Some (Paints painter)
  pub stroke : Stroke
  pub at_head : head_stroke s ≡ Some stroke
  pub listed : slice_get (kept_jobs stroke) painter.index ≡ Some (kind, painter.job)

-- jobs of these kinds may be at work beside each other
pub record MayShare (a b : Kind) : Type 0 where
  pub first : runs a ≡ true
  pub second : runs b ≡ true
  pub not_both : (is_uni a && is_uni b) ≡ false

-- so a sequential job and a barrier are at work alone, and no two uniquely concurrent jobs are
abbrev pub OnlyRunsShare : Type 0
OnlyRunsShare = (s : State) (p q : ℕ) (a b : Kind) → IsOrderly s → RunsAs s p a → RunsAs s q b → p ≢ q → MayShare a b

-- in this state the event may happen
abbrev pub Enabled : State → Event → Type 0
Enabled s event = (new : State) × Step s event new

-- the job is the next to start: its stroke at the head is under way and leaves something, all jobs before it were started, and none of it conflicts
pub record IsNext (s : State) (kind : Kind) (job : Job) : Type 0 where
  pub stroke : Stroke
  pub at_head : head_stroke s ≡ Some stroke
  pub not_cancelled : is_cancelled stroke ≡ false
  pub no_overlap : overlaps stroke ≡ false
  pub next : ℕ
  pub begun : s.way ≡ Some next
  pub listed : slice_get (kept_jobs stroke) next ≡ Some (kind, job)

-- and the other way round: beside jobs at work with which it may share, the next job may start in any free slot, whichever tiles they have published
abbrev pub SharersMayStart : Type 0
SharersMayStart = (s : State) (place : ℕ) (kind : Kind) (job : Job) → IsOrderly s → IsNext s kind job → runs kind ≡ true
    → ((p : ℕ) (k : Kind) → RunsAs s p k → MayShare kind k) → slice_get s.slots place ≡ Some Free → Enabled s (Start place)

-- as a barrier of a stroke that isn't exclusive starts, no walk is at work and none waits
abbrev pub BarrierStartsClean : Type 0
BarrierStartsClean = (old new : State) (place : ℕ) → Step old (Start place) new → (job : RunsAs new place Bar) → job.stroke.exclusive ≡ false → (no_walker new ≡ true) × (new.updates ≡ [])

-- and so it stays as long as the barrier is at work
abbrev pub BarrierStaysClean : Type 0
BarrierStaysClean = (events : List Event) (s : State) (place : ℕ) → IsReached events s → (job : RunsAs s place Bar) → job.stroke.exclusive ≡ false → (no_walker s ≡ true) × (s.updates ≡ [])

-- while an exclusive stroke is under way no walk is at work
abbrev pub ExclusiveHasNoWalk : Type 0
ExclusiveHasNoWalk = (s : State) (stroke : Stroke) (n : ℕ) → IsOrderly s → head_stroke s ≡ Some stroke → s.way ≡ Some n → stroke.exclusive ≡ true → no_walker s ≡ true

-- the patches of walks at work never meet
abbrev pub WalksNeverMeet : Type 0
WalksNeverMeet = (s : State) (p q : ℕ) (a b : Walker) → IsOrderly s → slice_get s.slots p ≡ Some (Walks a) → slice_get s.slots q ≡ Some (Walks b) → p ≢ q → meets a.patch.rect b.patch.rect ≡ false

-- nothing is at work and nothing waits as an export takes effect
pub record IsStill (s : State) : Type 0 where
  pub jobs : no_painter s ≡ true
  pub walks : no_walker s ≡ true
  pub updates : s.updates ≡ []

-- an export waits until all is still
abbrev pub ExportWaits : Type 0
ExportWaits = (old new : State) → IsOrderly old → head old ≡ Some Exports → Step old Act new → IsStill old
