-- While a job is at work, its stroke stays at the head: more jobs may come behind, and base stays.
use Rattle.std.proofs.Common.{◌≡◌, ℕ, ◌<◌, ◌≤◌, Bool, true, false, Option, Some, None, List, [], ◌++◌, append-nil, length, take, refl, sym, ap, ◌∙◌, subst, arith}
use Rattle.std.specs.Prelude.{is_some, not, slice_get}
use Rattle.std.specs.List.{list_any}
use Rattle.std.proofs.lemmas.List.{map-append, take-append-le}
use Rattle.pixel_core.specs.Rgba.{Rgba}
use Rattle.geom_core.specs.Areas.{Area, Point}
use Rattle.geom_core.specs.Rects.{any_holds}
use Rattle.doc_model.specs.declared.job.Job.{Job}
use Rattle.doc_model.specs.declared.job.Kind.{Kind}
use Rattle.doc_model.specs.Layers.{Layer, at}
use Rattle.doc_model.specs.Jobs.{apply_all}
use Rattle.doc_model.specs.Forest.{content}
use Rattle.doc_model.specs.Strokes.{Jobs, Stroke}
use Rattle.machine_model.specs.State.{State, Painter, Paints, head_stroke}
use Rattle.machine_model.specs.Event.{Event, Feed, Init, Start, Publish, End, Finish, Cancel, Act, WalkStart, WalkPublish, WalkEnd}
use Rattle.machine_model.specs.Step.{Step}
use Rattle.machine_model.specs.Slots.{is_painter, no_painter}
use Rattle.machine_model.specs.Guards.{kept_jobs, is_paint}
use Rattle.machine_model.specs.UnderWay.{UnderWay, IsOnWay, SlotIsStarted, jobs_only, after_jobs, writes_at}
use Rattle.machine_model.specs.Sound.{IsOrderly}
use Rattle.machine_model.proofs.Lists.{all_get}
use Rattle.machine_model.proofs.Covers.{any_found}
use Rattle.machine_model.proofs.GrownStroke.{get_front}
use Rattle.machine_model.proofs.FeedKeeps.{head_after}
use Rattle.desk_events.specs.Sparing.{ShowsBefore}
use Rattle.stamped_desk.specs.Drawn.{ShotIsPrior}
use Rattle.geom_core.proofs.Tests.{length_map}

-- ---- more jobs behind

after_grown : (jobs rest : Jobs) (base : Layer) (i : ℕ) → i ≤ length jobs → after_jobs (jobs ++ rest) base i ≡ after_jobs jobs base i
after_grown jobs rest base i l =
    let few : i ≤ length (jobs_only jobs) = subst (λ n. i ≤ n) (sym (length_map (λ (j : Kind × Job). j.1) jobs)) l in
    ap (λ js. apply_all js base) (ap (take i) (map-append (λ (j : Kind × Job). j.1) jobs rest) ∙ take-append-le i (jobs_only jobs) (jobs_only rest) few)

writes_grown : (jobs rest : Jobs) (j : ℕ) → j < length jobs → writes_at (jobs ++ rest) j ≡ writes_at jobs j
writes_grown jobs rest j l = rw (get_front jobs rest j l) refl

within : (i j n : ℕ) → j < i → i ≤ n → j < n
within i j n h l = omega arith

shows_grown : (jobs rest : Jobs) (base : Layer) (since i : ℕ) (job : Job) (pixels : Point → Rgba) → i ≤ length jobs → ShowsBefore jobs base since i job pixels → ShowsBefore (jobs ++ rest) base since i job pixels
shows_grown jobs rest base since i job pixels l shows p here spared =
    shows p here (λ j from before other. ap (λ (rects : List Area). any_holds rects p) (sym (writes_grown jobs rest j (within i j (length jobs) before l))) ∙ spared j from before other)
    ∙ ap (λ (layer : Layer). at layer p) (sym (after_grown jobs rest base i l))

-- ---- the stroke stays

-- the head is the same stroke, with more jobs behind or none, and base is the same
pub record StaysAtHead (a b : State) (stroke : Stroke) : Type 0 where
  pub now : Stroke
  pub at_head : head_stroke b ≡ Some now
  pub layer : now.layer ≡ stroke.layer
  pub rest : Jobs
  pub jobs : kept_jobs now ≡ kept_jobs stroke ++ rest
  pub base : b.base ≡ a.base

pub one_stroke : (x y : Stroke) → ◌≡◌ {A = Option Stroke} (Some x) (Some y) → x ≡ y
one_stroke x y e = cc

pub one_layer : (x y : Layer) → ◌≡◌ {A = Option Layer} (Some x) (Some y) → x ≡ y
one_layer x y e = cc

no_stroke : (x : Stroke) → ◌≡◌ {A = Option Stroke} None (Some x) → ⊥
no_stroke x e = cc

append_none : (jobs : Jobs) → jobs ≡ jobs ++ []
append_none jobs = sym (append-nil jobs)

same_head : (a b : State) (stroke : Stroke) → head_stroke a ≡ Some stroke → head_stroke b ≡ head_stroke a → b.base ≡ a.base → StaysAtHead a b stroke
same_head a b stroke at same base = record { now = stroke; at_head = same ∙ at; layer = refl; rest = []; jobs = append_none (kept_jobs stroke); base = base }

busy : (a : State) (place : ℕ) (w : Painter) → slice_get a.slots place ≡ Some (Paints w) → no_painter a ≡ true → ⊥
busy a place w at idle =
    let some : list_any is_painter a.slots ≡ true = any_found is_painter a.slots place (Paints w) at refl in
    let clash : ◌≡◌ {A = Bool} false true = sym (ap not some) ∙ idle in
    cc

module _ (a b : State) (n : ℕ) (way : UnderWay a n) (place : ℕ) (w : Painter) (at : slice_get a.slots place ≡ Some (Paints w)) where
  stays_at_head : (e : Event) → Step a e b → StaysAtHead a b way.stroke
  stays_at_head (Feed c) step =
      let fed = head_after a c way.stroke way.at_head in
      record { now = fed.0; at_head = ap head_stroke step.1 ∙ fed.1; layer = fed.2.layer; rest = fed.2.jobs.0; jobs = fed.2.jobs.1; base = ap (λ (s : State). s.base) step.1 }
  stays_at_head Init step = same_head a b way.stroke way.at_head (ap head_stroke step.new_is) (ap (λ (s : State). s.base) step.new_is)
  stays_at_head (Start q) step = same_head a b way.stroke way.at_head (ap head_stroke step.new_is) (ap (λ (s : State). s.base) step.new_is)
  stays_at_head (Publish q key) step = same_head a b way.stroke way.at_head (ap head_stroke step.new_is) (ap (λ (s : State). s.base) step.new_is)
  stays_at_head (End q) step = same_head a b way.stroke way.at_head (ap head_stroke step.new_is) (ap (λ (s : State). s.base) step.new_is)
  stays_at_head Finish step =
      let one : way.stroke ≡ step.stroke = one_stroke way.stroke step.stroke (sym way.at_head ∙ step.at_head) in
      let paint : is_paint step.stroke.layer a.base ≡ true = subst (λ (s : Stroke). is_paint s.layer a.base ≡ true) one (ap is_some way.was) in
      absurd (busy a place w at (step.all_ended paint).1)
  stays_at_head Cancel step = absurd (busy a place w at step.idle)
  stays_at_head Act step = absurd (no_stroke way.stroke (sym step.no_stroke ∙ way.at_head))
  stays_at_head (WalkStart q patch) step = same_head a b way.stroke way.at_head (ap head_stroke step.new_is) (ap (λ (s : State). s.base) step.new_is)
  stays_at_head (WalkPublish q g key) step = same_head a b way.stroke way.at_head (ap head_stroke step.new_is) (ap (λ (s : State). s.base) step.new_is)
  stays_at_head (WalkEnd q) step = same_head a b way.stroke way.at_head (ap head_stroke step.new_is) (ap (λ (s : State). s.base) step.new_is)

-- ---- so what is known of the job's pixels stays

below : (i n m : ℕ) → i < n → n ≤ m → i ≤ m
below i n m h l = omega arith

module _ (a b : State) (place since : ℕ) (v w : Painter) (pixels : Point → Rgba) (at : slice_get a.slots place ≡ Some (Paints v)) (index : v.index ≡ w.index) (job : v.job ≡ w.job) where
  way_stays : (n : ℕ) (way : UnderWay a n) → StaysAtHead a b way.stroke → ShotIsPrior a since v pixels → ShotIsPrior b since w pixels
  way_stays n way stays prior stroke at_head base was =
      let jobs = kept_jobs way.stroke in
      let one : stays.now ≡ stroke = one_stroke stays.now stroke (sym stays.at_head ∙ at_head) in
      let layer : stroke.layer ≡ way.stroke.layer = ap (λ (s : Stroke). s.layer) (sym one) ∙ stays.layer in
      let under : content way.stroke.layer a.base ≡ Some base = ap (λ id. content id a.base) (sym layer) ∙ ap (content stroke.layer) (sym stays.base) ∙ was in
      let started : SlotIsStarted jobs n (Paints v) = all_get (SlotIsStarted jobs n) a.slots place (Paints v) way.started at in
      let grown : ShowsBefore (jobs ++ stays.rest) base since v.index v.job pixels = shows_grown jobs stays.rest base since v.index v.job pixels (below v.index n (length jobs) started.0 way.few) (prior way.stroke way.at_head base under) in
      let kept : jobs ++ stays.rest ≡ kept_jobs stroke = sym stays.jobs ∙ ap kept_jobs one in
      subst (λ (js : Jobs). ShowsBefore js base since w.index w.job pixels) kept
      (subst (λ (i : ℕ). ShowsBefore (jobs ++ stays.rest) base since i w.job pixels) index
      (subst (λ (j : Job). ShowsBefore (jobs ++ stays.rest) base since v.index j pixels) job grown))

  on_way_stays : (e : Event) → Step a e b → (o : Option ℕ) → IsOnWay a o → ShotIsPrior a since v pixels → ShotIsPrior b since w pixels
  on_way_stays e step None rest prior = absurd (busy a place v at rest.idle)
  on_way_stays e step (Some n) way prior = way_stays n way (stays_at_head a b n way place v at e step) prior

  pub prior_stays : (e : Event) → IsOrderly a → Step a e b → ShotIsPrior a since v pixels → ShotIsPrior b since w pixels
  prior_stays e orderly step prior = on_way_stays e step a.way orderly.on_way prior
