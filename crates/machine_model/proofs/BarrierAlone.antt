-- As long as a barrier of a stroke that isn't exclusive is at work, no walk is and none waits.
use Rattle.std.proofs.Common.{◌≡◌, ◌≢◌, ℕ, suc, zero, ◌<◌, Bool, true, false, not, List, [], ◌∷◌, Some, refl, sym, ap, ◌∙◌, arith, subst, inl, inr}
use Rattle.std.specs.Prelude.{slice_get, slice_set, ◌≤◌}
use Rattle.std.specs.List.{list_any}
use Rattle.geom_core.proofs.Tests.{not_true}
use Rattle.doc_model.specs.declared.job.Kind.{Kind}
use Rattle.doc_model.specs.declared.job.Kind.TheVariants.{Bar}
use Rattle.geom_core.specs.Grid.{Key}
use Rattle.doc_model.specs.declared.canvas.Patch.{Patch}
use Rattle.doc_model.specs.declared.canvas.Canvas.{Canvas}
use Rattle.doc_model.specs.declared.command.Command.{Command}
use Rattle.doc_model.specs.Strokes.{Stroke}
use Rattle.machine_model.specs.State.{Painter, Walker, Slot, Free, Paints, Walks, State, head_stroke, new_state}
use Rattle.machine_model.specs.Slots.{is_painter, is_walker, no_painter, no_walker}
use Rattle.machine_model.specs.Guards.{kept_jobs, is_paint}
use Rattle.machine_model.specs.Effects.{after_finish}
use Rattle.machine_model.specs.Event.{Event, Feed, Init, Start, Publish, End, Finish, Cancel, Act, WalkStart, WalkPublish, WalkEnd}
use Rattle.machine_model.specs.Step.{Step, Run, StartStep, PublishStep, EndStep, WalkStartStep}
use Rattle.machine_model.specs.UnderWay.{SlotIsStarted, UnderWay, IsOnWay, AtRest}
use Rattle.machine_model.specs.Sound.{IsOrderly}
use Rattle.machine_model.specs.SoundnessLaws.{IsNew}
use Rattle.machine_model.specs.GuardLaws.{RunsAs, MayShare, BarrierStaysClean}
use Rattle.machine_model.proofs.Lists.{all_get, length_above, set_cases, get_set}
use Rattle.machine_model.proofs.SlotChanges.{any_beside, nobody_walks}
use Rattle.machine_model.proofs.GrownStroke.{get_front}
use Rattle.machine_model.proofs.FeedKeeps.{Grows, head_after, after_feed}
use Rattle.machine_model.proofs.JobKeeps.{painting}
use Rattle.machine_model.proofs.JobCaches.{finish_idle}
use Rattle.machine_model.proofs.ActCaches.{at_rest, slots_act}
use Rattle.machine_model.proofs.Sharing.{only_runs_share, listed_job}
use Rattle.machine_model.proofs.GuardsHold.{starting, starts_at, barrier_starts_clean}
use Rattle.machine_model.proofs.RunsOrderly.{step_keeps, new_orderly}

-- no walk is at work and none waits
abbrev IsClear : State → Type 0
IsClear s = (no_walker s ≡ true) × (s.updates ≡ [])

-- where a barrier of a stroke that isn't exclusive is at work
abbrev BarrierIsClear : State → Type 0
BarrierIsClear s = (place : ℕ) (job : RunsAs s place Bar) → job.stroke.exclusive ≡ false → IsClear s

nobody_paints : (slots : List Slot) (i : ℕ) (w : Painter) → list_any is_painter slots ≡ false → slice_get slots i ≡ Some (Paints w) → ⊥
nobody_paints [] i w h e = cc
nobody_paints (Free ∷ slots) zero w h e = cc
nobody_paints (Walks v ∷ slots) zero w h e = cc
nobody_paints (Paints v ∷ slots) i w h e = cc
nobody_paints (Free ∷ slots) (suc i) w h e = nobody_paints slots i w h e
nobody_paints (Walks v ∷ slots) (suc i) w h e = nobody_paints slots i w h e

-- a new machine is idle
abbrev IsNewIdle : State → Type 0
IsNewIdle s = no_painter s ≡ true

new_idle : (canvas : Canvas) (n : ℕ) → no_painter (new_state canvas n) ≡ true
new_idle canvas zero = refl
new_idle canvas (suc n) = new_idle canvas n

-- where no job is at work, no barrier is
idle_clear : (s : State) → no_painter s ≡ true → BarrierIsClear s
idle_clear s idle place job shared = absurd (nobody_paints s.slots place job.painter (not_true _ idle) job.at_work)

-- no other slot has a job beside a barrier
no_other : (s : State) (p q : ℕ) (kind : Kind) → IsOrderly s → RunsAs s p Bar → RunsAs s q kind → p ≢ q → ⊥
no_other s p q kind sound bar other apart = let may : MayShare Bar kind = only_runs_share s p q Bar kind sound bar other apart in let f : false ≡ true = may.first in cc

-- a barrier that was at work in the same slot of a state with the same stroke
abbrev was_there : (old new : State) (place : ℕ) (job : RunsAs new place Bar) → head_stroke new ≡ head_stroke old → slice_get old.slots place ≡ Some (Paints job.painter) → RunsAs old place Bar
was_there old new place job same there = record { painter = job.painter; at_work = there; stroke = job.stroke; at_head = sym same ∙ job.at_head; listed = job.listed }

-- the kind of a job stays as commands are fed
feed_clear : (old : State) (c : Command) → IsOrderly old → BarrierIsClear old → BarrierIsClear (after_feed old c)
feed_clear old c sound clear place job shared = go (painting old place job.painter job.at_work old.way sound.on_way)
  where
    go : (n : ℕ) × (old.way ≡ Some n) × UnderWay old n → IsClear old
    go found = clear place (record { painter = job.painter; at_work = job.at_work; stroke = way.stroke; at_head = way.at_head; listed = there }) (sym grows.2.exclusive ∙ ap (λ (t : Stroke). t.exclusive) (sym same) ∙ shared)
      where
        way : UnderWay old found.0
        way = found.2

        grows : (t : Stroke) × (head_stroke (after_feed old c) ≡ Some t) × Grows way.stroke t
        grows = head_after old c way.stroke way.at_head

        same : job.stroke ≡ grows.0
        same = let e : Some job.stroke ≡ Some grows.0 = sym job.at_head ∙ grows.1 in cc

        here : SlotIsStarted (kept_jobs way.stroke) found.0 (Paints job.painter)
        here = all_get (SlotIsStarted (kept_jobs way.stroke) found.0) old.slots place (Paints job.painter) way.started job.at_work

        there : slice_get (kept_jobs way.stroke) job.painter.index ≡ Some (Bar, job.painter.job)
        there = sym (get_front (kept_jobs way.stroke) grows.2.jobs.0 job.painter.index (below (length_above (kept_jobs way.stroke) job.painter.index _ here.2)))
            ∙ ap (λ jobs. slice_get jobs job.painter.index) (sym grows.2.jobs.1) ∙ ap (λ (t : Stroke). slice_get (kept_jobs t) job.painter.index) (sym same) ∙ job.listed
          where
            below : {n m : ℕ} → suc n ≤ m → n < m
            below h = omega arith

start_clear : (old new : State) (place : ℕ) → IsOrderly new → StartStep old place new → BarrierIsClear new
start_clear old new place sound step q job shared = elim (set_cases old.slots place _ q (Paints job.painter) (ap (λ (s : State). slice_get s.slots q) (sym step.new_is) ∙ job.at_work)) [
  | inl here ↦ barrier_starts_clean old new place step (subst (λ p. RunsAs new p Bar) here.0 job) shared
  | inr there ↦ absurd (no_other new q place step.job.0 sound job (record { painter = starting old new place step; at_work = starts_at old new place step; stroke = step.stroke; at_head = ap head_stroke step.new_is ∙ step.at_head; listed = step.is_next }) there.0)
]

-- a job publishes: the barrier itself, since no other job is at work
publish_clear : (old new : State) (place : ℕ) (key : Key) → IsOrderly old → IsOrderly new → PublishStep old place key new → BarrierIsClear old → BarrierIsClear new
publish_clear old new place key sound sound' step clear q job shared = elim (set_cases old.slots place (Paints w) q (Paints job.painter) (ap (λ (s : State). slice_get s.slots q) (sym step.new_is) ∙ job.at_work)) [
  | inl here ↦ go here.0 (let e : job.painter ≡ w = cc in e) here.1
  | inr there ↦ (let mine : (kind : Kind) × (mine : RunsAs new place kind) × (mine.painter ≡ w) = listed_job new place w sound' (ap (λ (s : State). slice_get s.slots place) step.new_is ∙ get_set old.slots place (Paints step.painter) (Paints w) step.runs) in absurd (no_other new q place mine.0 sound' job mine.1 there.0))
]
  where
    w : Painter
    w = record step.painter { published = key ∷ step.painter.published }

    go : q ≡ place → job.painter ≡ w → Paints job.painter ≡ Paints w → IsClear new
    go here same e =
        let before : IsClear old = clear place (record { painter = step.painter; at_work = step.runs; stroke = job.stroke; at_head = sym (ap head_stroke step.new_is) ∙ job.at_head; listed = ap (λ (v : Painter). slice_get (kept_jobs job.stroke) v.index) (sym same) ∙ job.listed ∙ ap (λ (v : Painter). Some (Bar, v.job)) same }) shared in
        (ap no_walker step.new_is ∙ ap not (any_beside is_walker old.slots place (Paints step.painter) (Paints w) step.runs refl refl) ∙ before.0, ap (λ (s : State). s.updates) step.new_is ∙ before.1)

-- another job doesn't end beside it
end_clear : (old new : State) (place : ℕ) → IsOrderly old → EndStep old place new → BarrierIsClear new
end_clear old new place sound step q job shared = elim (set_cases old.slots place Free q (Paints job.painter) (ap (λ (s : State). slice_get s.slots q) (sym step.new_is) ∙ job.at_work)) [
  | inl here ↦ (let e : Paints job.painter ≡ Free = here.1 in cc)
  | inr there ↦ (let mine : (kind : Kind) × (mine : RunsAs old place kind) × (mine.painter ≡ step.painter) = listed_job old place step.painter sound step.runs in absurd (no_other old q place mine.0 sound (was_there old new q job (ap head_stroke step.new_is) there.1) mine.1 there.0))
]

-- no walk starts beside it, since none waits
walk_start_clear : (old new : State) (place : ℕ) (patch : Patch) → WalkStartStep old place patch new → BarrierIsClear old → BarrierIsClear new
walk_start_clear old new place patch step clear q job shared = elim (set_cases old.slots place _ q (Paints job.painter) (ap (λ (s : State). slice_get s.slots q) (sym step.new_is) ∙ job.at_work)) [
  | inl here ↦ (let e = here.1 in cc)
  | inr there ↦ (let none : IsClear old = clear q (was_there old new q job (ap head_stroke step.new_is) there.1) shared in let f : slice_get [] step.i ≡ Some patch = ap (λ us. slice_get us step.i) (sym none.1) ∙ step.waits in absurd (nothing step.i patch f))
]
  where
    nothing : (i : ℕ) (p : Patch) → slice_get [] i ≡ Some p → ⊥
    nothing i p e = cc

-- nor is one at work beside it
no_walk_beside : (old new : State) (place q : ℕ) (walker : Walker) (slot : Slot) (job : RunsAs new q Bar) → slice_get old.slots place ≡ Some (Walks walker) → new.slots ≡ slice_set old.slots place slot → is_painter slot ≡ false → head_stroke new ≡ head_stroke old → job.stroke.exclusive ≡ false → BarrierIsClear old → ⊥
no_walk_beside old new place q walker slot job runs slots other head shared clear = elim (set_cases old.slots place slot q (Paints job.painter) (ap (λ xs. slice_get xs q) (sym slots) ∙ job.at_work)) [
  | inl here ↦ (let f : true ≡ false = ap is_painter here.1 ∙ other in cc)
  | inr there ↦ (let none : IsClear old = clear q (was_there old new q job head there.1) shared in nobody_walks old.slots place walker (not_true _ none.0) runs)
]

step_clear : (old new : State) (e : Event) → IsOrderly old → IsOrderly new → Step old e new → BarrierIsClear old → BarrierIsClear new
step_clear old new (Feed c) sound sound' step clear = subst BarrierIsClear (sym step.1) (feed_clear old c sound clear)
step_clear old new Init sound sound' step clear =
    let rest : AtRest old = subst (IsOnWay old) step.not_begun sound.on_way in
    subst BarrierIsClear (sym step.new_is) (idle_clear _ rest.idle)
step_clear old new (Start place) sound sound' step clear = start_clear old new place sound' step
step_clear old new (Publish place key) sound sound' step clear = publish_clear old new place key sound sound' step clear
step_clear old new (End place) sound sound' step clear = end_clear old new place sound step
step_clear old new Finish sound sound' step clear = by_finish (is_paint step.stroke.layer old.base) step.new_is
  where
    by_finish : (b : Bool) → new ≡ after_finish old step.stroke b → BarrierIsClear new
    by_finish true e = subst BarrierIsClear (sym e) (idle_clear _ (finish_idle old new step sound.on_way))
    by_finish false e = subst BarrierIsClear (sym e) (idle_clear _ (finish_idle old new step sound.on_way))
step_clear old new Cancel sound sound' step clear = subst BarrierIsClear (sym step.new_is) (idle_clear _ step.idle)
step_clear old new Act sound sound' step clear =
    let rest : AtRest old = at_rest old step.no_stroke sound.on_way in
    idle_clear new (ap no_painter step.new_is ∙ ap (λ xs. not (list_any is_painter xs)) (slots_act old step.entry) ∙ rest.idle)
step_clear old new (WalkStart place patch) sound sound' step clear = walk_start_clear old new place patch step clear
step_clear old new (WalkPublish place g key) sound sound' step clear = λ q job shared. absurd (no_walk_beside old new place q step.walker _ job step.runs (ap (λ (s : State). s.slots) step.new_is) refl (ap head_stroke step.new_is) shared clear)
step_clear old new (WalkEnd place) sound sound' step clear = λ q job shared. absurd (no_walk_beside old new place q step.walker Free job step.runs (ap (λ (s : State). s.slots) step.new_is) refl (ap head_stroke step.new_is) shared clear)

run_clear : (old : State) (events : List Event) (new : State) → IsOrderly old → BarrierIsClear old → Run old events new → BarrierIsClear new
run_clear old [] new sound clear run = subst BarrierIsClear (sym run) clear
run_clear old (e ∷ events) new sound clear run =
    let next : IsOrderly run.0 = step_keeps old run.0 e sound run.1 in
    run_clear run.0 events new next (step_clear old run.0 e sound next run.1 clear) run.2

pub barrier_stays_clean : BarrierStaysClean
barrier_stays_clean events s place reached = run_clear reached.start events s sound (idle_clear reached.start idle) reached.run place
  where
    new : IsNew reached.start
    new = reached.new

    sound : IsOrderly reached.start
    sound = subst IsOrderly (sym new.is) (new_orderly new.canvas new.slots new.of_limits new.some_slot new.few_slots)

    idle : no_painter reached.start ≡ true
    idle = (subst IsNewIdle (sym new.is) (new_idle new.canvas new.slots))
