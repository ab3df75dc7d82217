-- Which event the desk may choose next, and when none may happen.
use Rattle.std.specs.Prelude.{◌≡◌, ℕ, ◌+◌, ◌==◌, ◌&&◌, ◌||◌, Bool, true, false, Option, Some, None, length, not, slice_get}
use Rattle.std.specs.List.{find, list_any}
use Rattle.geom_core.specs.Areas.{Point, holds}
use Rattle.geom_core.specs.Rects.{any_holds}
use Rattle.doc_model.specs.Jobs.{writes}
use Rattle.doc_model.specs.declared.canvas.Patch.{Patch}
use Rattle.doc_model.specs.declared.command.Command.{Command}
use Rattle.doc_model.specs.declared.command.Command.TheVariants as command
use Rattle.doc_model.specs.declared.job.Job.{Job}
use Rattle.doc_model.specs.declared.job.Kind.{Kind}
use Rattle.doc_model.specs.declared.job.Kind.TheVariants.{Bar}
use Rattle.doc_model.specs.Strokes.{Jobs, Stroke, Entry, Changes, Undoes, Redoes, Purges, Exports}
use Rattle.machine_model.specs.State.{State, Slot, Free, Paints, Walks, head, head_stroke}
use Rattle.machine_model.specs.Settled.{IsSettled}
use Rattle.machine_model.specs.Event.{Event, Init, Start, Finish, Cancel, Act, WalkStart}
use Rattle.machine_model.specs.Slots.{no_walker}
use Rattle.machine_model.specs.Step.{Step}
use Rattle.machine_model.specs.Guards.{blocks, meets_walker, kept_jobs, is_closed, is_cancelled, overlaps}
use Rattle.entry_queue.specs.declared.head.HeadStroke.{HeadStroke}
use Rattle.desk_state.specs.declared.head.Choice.{Choice}
use Rattle.desk_state.specs.declared.head.Choice.TheVariants as choice
use Rattle.desk_state.specs.Counting.{steps_of}
use Rattle.desk_state.specs.Enabled.{Enabled}

-- whether the event is one of the entry at the head
abbrev pub of_head : Event → Bool
of_head Init = true
of_head (Start place) = true
of_head Finish = true
of_head Cancel = true
of_head Act = true
of_head e = false

-- whether the entry's taking effect takes memory
abbrev pub act_takes : Option Entry → Bool
act_takes (Some (Changes change)) = true
act_takes (Some Exports) = true
act_takes entry = false

-- whether the event takes memory, by the entry at the head
abbrev pub takes_memory : Option Entry → Event → Bool
takes_memory entry Init = true
takes_memory entry (Start place) = true
takes_memory entry (WalkStart place patch) = true
takes_memory entry Act = act_takes entry
takes_memory entry e = false

-- whether the entry is an undo, a redo or a purge
abbrev pub act_is_free : Option Entry → Bool
act_is_free (Some Undoes) = true
act_is_free (Some Redoes) = true
act_is_free (Some (Purges n)) = true
act_is_free entry = false

-- whether the event is an end of a stroke, an undo, a redo or a purge, which take none
abbrev pub takes_none : Option Entry → Event → Bool
takes_none entry Finish = true
takes_none entry Cancel = true
takes_none entry Act = act_is_free entry
takes_none entry e = false

-- the entry at the head waits
abbrev pub HeadWaits : State → Type 0
HeadWaits s = (e : Event) → of_head e ≡ true → Enabled s e → ⊥

-- no waiting patch may be walked
abbrev pub WalksWait : State → Type 0
WalksWait s = (place : ℕ) (patch : Patch) → Enabled s (WalkStart place patch) → ⊥

-- the desk isn't settled, and waits for what is at work or for commands
pub record IsIdle (s : State) : Type 0 where
  pub unsettled : IsSettled s → ⊥
  pub head : HeadWaits s
  pub walks : WalksWait s

-- an event that takes memory may happen, and none of those that take none
pub record MayWant (s : State) : Type 0 where
  pub event : Event
  pub enabled : Enabled s event
  pub takes : takes_memory (head s) event ≡ true
  pub others : (e : Event) → takes_none (head s) e ≡ true → Enabled s e → ⊥

-- an event of the head or a walk that makes no work
abbrev pub is_done_at_once : Event → Bool
is_done_at_once Init = true
is_done_at_once Finish = true
is_done_at_once Cancel = true
is_done_at_once Act = true
is_done_at_once e = false

-- what is known of the stroke at the head
pub record IsHeadOf (s : State) (h : HeadStroke) : Type 0 where
  pub stroke : Stroke
  pub at_head : head_stroke s ≡ Some stroke
  pub layer : h.layer ≡ stroke.layer
  pub exclusive : h.exclusive ≡ stroke.exclusive
  pub closed : h.closed ≡ is_closed stroke
  pub refused : h.cancelled ≡ is_cancelled stroke
  pub overlaps : h.overlaps ≡ overlaps stroke
  pub jobs : h.jobs ≡ length (kept_jobs stroke)

-- the choice may be made
abbrev pub IsChoice : State → Choice → Type 0
IsChoice s choice.Finish = Enabled s Finish
IsChoice s choice.Cancel = Enabled s Cancel
IsChoice s choice.Act = Enabled s Act
IsChoice s choice.Init = Enabled s Init
IsChoice s (choice.Start place) = Enabled s (Start place)
IsChoice s choice.Wait = HeadWaits s

-- an event that makes no work was made, and its steps were counted
pub record DoesAtOnce (old new : State) (before now : ℕ) : Type 0 where
  pub event : Event
  pub at_once : is_done_at_once event ≡ true
  pub step : Step old event new
  pub counts : now ≡ before + steps_of old event

-- the first waiting patch that meets no walk at work may be walked in the slot
pub record CanWalk (s : State) (place : ℕ) : Type 0 where
  pub patch : Patch
  pub first : find (λ p. not (list_any (meets_walker p.rect) s.slots)) s.updates ≡ Some patch
  pub enabled : Enabled s (WalkStart place patch)

-- whether nothing waits to be composed
abbrev pub is_clean : State → Bool
is_clean s = length s.updates == 0

-- whether nothing keeps the command's entry, which is no stroke, from taking effect
abbrev pub acts_now : State → Command → Bool
acts_now s command.Export = is_clean s && no_walker s
acts_now s c = no_walker s

-- whether a job of that kind needn't wait for what is to be composed
abbrev pub clear_for : State → Kind → Bool → Bool
clear_for s Bar exclusive = exclusive || (is_clean s && no_walker s)
clear_for s kind exclusive = true

-- whether the job may run beside what is at work
abbrev pub runs_beside : State → Jobs → Bool → Option (Kind × Job) → Bool
runs_beside s jobs exclusive None = false
runs_beside s jobs exclusive (Some job) = not (list_any (blocks jobs job.0) s.slots) && clear_for s job.0 exclusive

-- the same of the job with that index
abbrev pub runs_at : State → Jobs → Bool → ℕ → Bool
runs_at s jobs exclusive i = runs_beside s jobs exclusive (slice_get jobs i)

-- whether the work in a slot changes the point, or composes the root there
abbrev pub works_on : Point → Slot → Bool
works_on p Free = false
works_on p (Paints w) = any_holds (writes w.job) p
works_on p (Walks w) = holds w.patch.rect p
