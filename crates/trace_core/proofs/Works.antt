-- What the events of work leave, by what is read of the slot and of the head.
use Rattle.std.proofs.Common.{◌≡◌, ℕ, Bool, true, false, Option, Some, None, is_some, Result, Ok, Err, sym, ap, ◌∙◌}
use Rattle.std.specs.Prelude.{slice_get}
use Rattle.std.specs.Option.{option_map}
use Rattle.geom_core.specs.Grid.{Key}
use Rattle.geom_core.specs.declared.NoMemory.{NoMemory}
use Rattle.doc_model.specs.declared.canvas.Patch.{Patch}
use Rattle.doc_model.specs.declared.job.Job.{Job}
use Rattle.doc_model.specs.declared.job.Kind.{Kind}
use Rattle.machine_model.specs.Next.{when, place_of}
use Rattle.entry_queue.specs.declared.head.HeadStroke.{HeadStroke}
use Rattle.trace_state.specs.declared.slot.Slot.{Slot}
use Rattle.trace_state.specs.declared.slot.Slot.TheVariants.{Free, Paints, Walks}
use Rattle.entry_queue.specs.Heads.{head_in, jobs_in}
use Rattle.trace_state.specs.Painting.{Painting, is_painted}
use Rattle.trace_state.specs.Walking.{Walking, is_composed}
use Rattle.trace_state.specs.Slots.{published_in, composed_in, SlotFollows}
use Rattle.trace_core.specs.Outline.{Outline}
use Rattle.trace_core.specs.Moves as move
use Rattle.trace_core.specs.Moves.{Follows}
use Rattle.trace_core.proofs.Events.{started_is, stays}

module _ (o : Outline) (place : ℕ) (h : HeadStroke) (n : ℕ) (job : Kind × Job) (e : head_in o.left ≡ Some h) (w : o.way ≡ Some n) (f : slice_get o.slots place ≡ Some Free) (g : slice_get (jobs_in o.left) n ≡ Some job) where
  -- a job that may not start beside what is at work
  pub start_waits : move.may_start o h job.0 ≡ false → move.started o place ≡ None
  start_waits may = started_is o place h n (Some job) e w f g ∙ ap (λ b. when b (move.with_painter o place n job.1)) may

  -- a job starts
  pub starts : (new : Outline) → move.may_start o h job.0 ≡ true → new ≡ move.with_painter o place n job.1 → move.started o place ≡ Some new
  starts new may is = started_is o place h n (Some job) e w f g ∙ ap (λ b. when b (move.with_painter o place n job.1)) may ∙ ap Some (sym is)

module _ (o : Outline) (place : ℕ) (h : HeadStroke) (w : Painting) (e : head_in o.left ≡ Some h) (at : slice_get o.slots place ≡ Some (Paints w)) where
  ended_is : move.ended o place ≡ when (is_painted w) (move.without_painter o place h w.job)
  ended_is = λ i. move.ended_by o place (e i) (at i)

  -- a job ends
  pub ends : (new : Outline) → is_painted w ≡ true → new ≡ move.without_painter o place h w.job → move.ended o place ≡ Some new
  ends new painted is = ended_is ∙ ap (λ b. when b (move.without_painter o place h w.job)) painted ∙ ap Some (sym is)

module _ (o : Outline) (place : ℕ) (w : Walking) (at : slice_get o.slots place ≡ Some (Walks w)) where
  walk_ended_is : move.walk_ended o place ≡ when (is_composed w) (move.with_slot o place Free)
  walk_ended_is = ap (move.walk_ended_by o place) at

  -- a walk ends
  pub walk_ends : (new : Outline) → is_composed w ≡ true → new ≡ move.with_slot o place Free → move.walk_ended o place ≡ Some new
  walk_ends new composed is = walk_ended_is ∙ ap (λ b. when b (move.with_slot o place Free)) composed ∙ ap Some (sym is)

module _ (o : Outline) (place : ℕ) (asked : Patch) (i : ℕ) (p : Patch) (f : slice_get o.slots place ≡ Some Free) (here : i ≡ place_of asked o.updates.patches) (at : slice_get o.updates.patches i ≡ Some p) where
  walk_started_is : move.walk_started o place asked ≡ when (move.may_walk o p.rect) (move.with_walker o place i p)
  walk_started_is =
      ap (λ j. move.walk_started_by o place j (slice_get o.updates.patches j) (slice_get o.slots place)) (sym here)
      ∙ (λ k. move.walk_started_by o place i (at k) (f k))

  -- a walk starts
  pub walk_starts : (new : Outline) → move.may_walk o p.rect ≡ true → new ≡ move.with_walker o place i p → move.walk_started o place asked ≡ Some new
  walk_starts new may is = walk_started_is ∙ ap (λ b. when b (move.with_walker o place i p)) may ∙ ap Some (sym is)

-- what happens in one slot alone
slot_follows : (o new : Outline) (place : ℕ) (next : Option Outline) (inside : Option Slot) (x y : Slot) (r : Result Bool NoMemory) → next ≡ option_map (move.with_slot o place) inside → slice_get o.slots place ≡ Some x → SlotFollows r inside x y → new ≡ move.with_slot o place y → Follows r next o new
slot_follows o new place next inside x y (Ok true) told at so is = told ∙ ap (option_map (move.with_slot o place)) so ∙ ap Some (sym is)
slot_follows o new place next inside x y (Ok false) told at so is = (
  told ∙ ap (option_map (move.with_slot o place)) so.0,
  is ∙ ap (move.with_slot o place) so.1 ∙ ap (λ xs. record o { slots = xs }) (stays o.slots place x at),
)
slot_follows o new place next inside x y (Err e) told at so is = tt

-- a tile of a job is published
pub publishes : (o new : Outline) (place : ℕ) (key : Key) (x y : Slot) (r : Result Bool NoMemory) → is_some (head_in o.left) ≡ true → slice_get o.slots place ≡ Some x → SlotFollows r (published_in key x) x y → new ≡ move.with_slot o place y → Follows r (move.published o place key) o new
publishes o new place key x y r waits at so is = slot_follows o new place (move.published o place key) (published_in key x) x y r (told (head_in o.left) waits) at so is
  where
    told : (h : Option HeadStroke) → is_some h ≡ true → move.published_by o place key h (slice_get o.slots place) ≡ option_map (move.with_slot o place) (published_in key x)
    told None t = cc
    told (Some h) t = ap (move.published_by o place key (Some h)) at

-- a tile of a group is composed
pub composes : (o new : Outline) (place g : ℕ) (key : Key) (x y : Slot) (r : Result Bool NoMemory) → slice_get o.slots place ≡ Some x → SlotFollows r (composed_in g key x) x y → new ≡ move.with_slot o place y → Follows r (move.composed o place g key) o new
composes o new place g key x y r at so is = slot_follows o new place (move.composed o place g key) (composed_in g key x) x y r (ap (move.composed_by o place g key) at) at so is
