-- What an event leaves of an outline, where it may happen.
use Rattle.std.specs.Prelude.{◌≡◌, ℕ, suc, Bool, true, false, ◌&&◌, ◌||◌, not, Option, Some, None, Result, Ok, Err, List, [], ◌∷◌, ◌++◌, take, drop, map, slice_get, slice_set}
use Rattle.std.specs.Option.{option_map, option_and_then}
use Rattle.std.specs.List.{list_any, list_all, remove}
use Rattle.std.specs.FinSet as set
use Rattle.geom_core.specs.Areas.{Area}
use Rattle.geom_core.specs.Grid.{Key}
use Rattle.geom_core.specs.declared.NoMemory.{NoMemory}
use Rattle.doc_model.specs.declared.job.Job.{Job}
use Rattle.doc_model.specs.declared.job.Kind.{Kind}
use Rattle.doc_model.specs.declared.canvas.Patch.{Patch}
use Rattle.doc_model.specs.declared.command.Command.{Command}
use Rattle.doc_model.specs.declared.command.Command.TheVariants as command
use Rattle.doc_model.specs.declared.tree.TreeFault.{TreeFault}
use Rattle.doc_model.specs.Jobs.{writes}
use Rattle.doc_model.specs.Changes.{changed}
use Rattle.doc_model.specs.Lawful.{may_follow}
use Rattle.doc_model.specs.Strokes.{Jobs, entries}
use Rattle.doc_model.specs.Updates.{refreshed}
use Rattle.entry_queue.specs.Pushed.{pushed}
use Rattle.update_queue.specs.Waiting.{waiting, widened_by, widened_by_all}
use Rattle.machine_model.specs.Guards.{is_bar}
use Rattle.machine_model.specs.Next.{when, is_clear, is_number, place_of}
use Rattle.machine_model.specs.Replays.{first_of}
use Rattle.entry_queue.specs.declared.head.HeadStroke.{HeadStroke}
use Rattle.trace_state.specs.declared.history.Reach.{Reach}
use Rattle.trace_state.specs.declared.history.Reach.TheVariants.{Whole, Part}
use Rattle.trace_state.specs.Histories.{Former, former}
use Rattle.trace_state.specs.declared.slot.Slot.{Slot}
use Rattle.trace_state.specs.declared.slot.Slot.TheVariants.{Free, Paints, Walks}
use Rattle.trace_state.specs.Trees.{Shape, paints, group_of, tree_path}
use Rattle.trace_state.specs.Tiles.{round}
use Rattle.entry_queue.specs.Heads.{head_in, jobs_in}
use Rattle.trace_state.specs.Waits.{other_in, is_done}
use Rattle.trace_state.specs.Painting.{is_painted}
use Rattle.trace_state.specs.Walking.{unpublished, is_composed}
use Rattle.trace_state.specs.Slots.{is_free, is_painter, is_walker, blocks, meets_walker, published_in, composed_in}
use Rattle.trace_core.specs.Outline.{Outline}

abbrev pub no_painter : Outline → Bool
no_painter o = not (list_any is_painter o.slots)

abbrev pub no_walker : Outline → Bool
no_walker o = not (list_any is_walker o.slots)

-- whether no patch waits
abbrev pub is_clean : Outline → Bool
is_clean o = is_clear o.updates.patches

-- the outline with another command
abbrev pub with_command : Outline → Command → Outline
with_command o c = record o { fed = o.fed ++ c ∷ []; left = pushed o.left c }

abbrev pub fed : Outline → Command → Option Outline
fed o c = when (may_follow (entries o.fed) c) (with_command o c)

-- whether the stroke is neither cancelled nor refused
abbrev pub is_alive : HeadStroke → Bool
is_alive h = not h.cancelled && not h.overlaps

abbrev pub may_begin : Outline → HeadStroke → Bool
may_begin o h = is_alive h && (paints h.layer o.base && (not h.exclusive || no_walker o))

abbrev pub begun_by : Outline → Option HeadStroke → Option ℕ → Option Outline
begun_by o (Some h) None = when (may_begin o h) (record o { way = Some 0 })
begun_by o (Some h) (Some n) = None
begun_by o None way = None

abbrev pub begun : Outline → Option Outline
begun o = begun_by o (head_in o.left) o.way

abbrev pub may_start : Outline → HeadStroke → Kind → Bool
may_start o h kind = is_alive h && (not (list_any (blocks (jobs_in o.left) kind) o.slots) && (not (is_bar kind) || (h.exclusive || (no_walker o && is_clean o))))

-- the outline with the job at work, which has that index
abbrev pub with_painter : Outline → ℕ → ℕ → Job → Outline
with_painter o place n job = record o { way = Some (suc n); slots = slice_set o.slots place (Paints (record { index = n; job = job; published = set.empty })) }

abbrev pub job_started : Outline → ℕ → HeadStroke → ℕ → Option (Kind × Job) → Option Outline
job_started o place h n None = None
job_started o place h n (Some job) = when (may_start o h job.0) (with_painter o place n job.1)

abbrev pub started_by : Outline → ℕ → Option HeadStroke → Option ℕ → Option Slot → Option Outline
started_by o place (Some h) (Some n) (Some Free) = job_started o place h n (slice_get (jobs_in o.left) n)
started_by o place h way slot = None

abbrev pub started : Outline → ℕ → Option Outline
started o place = started_by o place (head_in o.left) o.way (slice_get o.slots place)

-- the outline with that in the slot
abbrev pub with_slot : Outline → ℕ → Slot → Outline
with_slot o place slot = record o { slots = slice_set o.slots place slot }

abbrev pub published_by : Outline → ℕ → Key → Option HeadStroke → Option Slot → Option Outline
published_by o place key None slot = None
published_by o place key (Some h) slot = option_map (with_slot o place) (option_and_then (published_in key) slot)

abbrev pub published : Outline → ℕ → Key → Option Outline
published o place key = published_by o place key (head_in o.left) (slice_get o.slots place)

-- the outline without the job, whose writes wait for a walk
abbrev pub without_painter : Outline → ℕ → HeadStroke → Job → Outline
without_painter o place h job = record o {
  slots = slice_set o.slots place Free;
  updates = widened_by_all o.updates (group_of h.layer o.present) (writes job);
}

abbrev pub ended_by : Outline → ℕ → Option HeadStroke → Option Slot → Option Outline
ended_by o place (Some h) (Some (Paints w)) = when (is_painted w) (without_painter o place h w.job)
ended_by o place h slot = None

abbrev pub ended : Outline → ℕ → Option Outline
ended o place = ended_by o place (head_in o.left) (slice_get o.slots place)

abbrev pub walk_ended_by : Outline → ℕ → Option Slot → Option Outline
walk_ended_by o place (Some (Walks w)) = when (is_composed w) (with_slot o place Free)
walk_ended_by o place slot = None

abbrev pub walk_ended : Outline → ℕ → Option Outline
walk_ended o place = walk_ended_by o place (slice_get o.slots place)

-- what is at work in the slot ends
abbrev pub work_ended : Outline → ℕ → Option Outline
work_ended o place = first_of (ended o place) (walk_ended o place)

abbrev pub composed_by : Outline → ℕ → ℕ → Key → Option Slot → Option Outline
composed_by o place g key slot = option_map (with_slot o place) (option_and_then (composed_in g key) slot)

abbrev pub composed : Outline → ℕ → ℕ → Key → Option Outline
composed o place g key = composed_by o place g key (slice_get o.slots place)

-- whether an exclusive stroke is under way
abbrev pub is_exclusive : Option HeadStroke → Option ℕ → Bool
is_exclusive (Some h) (Some n) = h.exclusive
is_exclusive h way = false

abbrev pub may_walk : Outline → Area → Bool
may_walk o rect = not (is_exclusive (head_in o.left) o.way) && not (list_any (meets_walker rect) o.slots)

-- the outline with a walk of the patch of that index at work
abbrev pub with_walker : Outline → ℕ → ℕ → Patch → Outline
with_walker o place i patch = record o {
  updates = waiting o.updates.canvas (remove o.updates.patches i);
  slots = slice_set o.slots place (Walks (record { patch = patch; groups = map unpublished (tree_path patch.walk o.present) }));
}

abbrev pub walk_started_by : Outline → ℕ → ℕ → Option Patch → Option Slot → Option Outline
walk_started_by o place i (Some patch) (Some Free) = when (may_walk o patch.rect) (with_walker o place i patch)
walk_started_by o place i patch slot = None

abbrev pub walk_started : Outline → ℕ → Patch → Option Outline
walk_started o place patch = walk_started_by o place (place_of patch o.updates.patches) (slice_get o.updates.patches (place_of patch o.updates.patches)) (slice_get o.slots place)

-- the outline without the entry at the head
abbrev pub popped : Outline → Outline
popped o = record o { left = drop 1 o.left }

abbrev pub has_ended : Outline → HeadStroke → Bool
has_ended o h = is_number h.jobs o.way && no_painter o

abbrev pub may_finish : Outline → HeadStroke → Bool
may_finish o h = (h.closed && not h.cancelled) && (not h.overlaps && (not (paints h.layer o.base) || has_ended o h))

-- the outline with the stroke at the head as the newest change
abbrev pub with_change : Outline → HeadStroke → Outline
with_change o h = record o { past = former o.base (Part h.layer (round (jobs_in o.left))) ∷ o.past; future = []; base = o.present; way = None }

abbrev pub after_finish : Outline → HeadStroke → Bool → Outline
after_finish o h false = popped o
after_finish o h true = popped (with_change o h)

abbrev pub finished_by : Outline → Option HeadStroke → Option Outline
finished_by o None = None
finished_by o (Some h) = when (may_finish o h) (after_finish o h (paints h.layer o.base))

abbrev pub finished : Outline → Option Outline
finished o = finished_by o (head_in o.left)

-- the jobs that were started
abbrev pub started_of : Jobs → Option ℕ → Jobs
started_of jobs None = []
started_of jobs (Some n) = take n jobs

abbrev pub may_cancel : Outline → HeadStroke → Bool
may_cancel o h = h.closed && ((h.cancelled || h.overlaps) && no_painter o)

-- the outline without what the stroke at the head has painted
abbrev pub without_change : Outline → HeadStroke → Outline
without_change o h = record o { present = o.base; way = None; updates = widened_by o.updates (group_of h.layer o.present) (round (started_of (jobs_in o.left) o.way)) }

abbrev pub cancelled_by : Outline → Option HeadStroke → Option Outline
cancelled_by o None = None
cancelled_by o (Some h) = when (may_cancel o h) (popped (without_change o h))

abbrev pub cancelled : Outline → Option Outline
cancelled o = cancelled_by o (head_in o.left)

abbrev pub is_export : Command → Bool
is_export command.Export = true
is_export c = false

abbrev pub may_act : Outline → Command → Bool
may_act o c = no_walker o && (not (is_export c) || is_clean o)

-- the outline with another document, after a change of that reach
abbrev pub moved_to : Outline → Shape → Reach → Outline
moved_to o new Whole = record o { base = new; present = new; updates = waiting o.updates.canvas (refreshed o.updates.canvas o.updates.patches o.area) }
moved_to o new (Part layer bound) = record o { base = new; present = new; updates = widened_by o.updates (group_of layer new) bound }

-- the same, where there was such a change
abbrev pub reached : Outline → Option Reach → Outline
reached o None = o
reached o (Some reach) = moved_to o o.base reach

abbrev pub after_change : Outline → Result Shape TreeFault → Outline
after_change o (Err fault) = o
after_change o (Ok new) = moved_to (record o { past = former o.base Whole ∷ o.past; future = [] }) new Whole

abbrev pub after_undo : Outline → List Former → Outline
after_undo o [] = o
after_undo o (e ∷ past) = moved_to (record o { past = past; future = former o.base e.reach ∷ o.future }) e.tree e.reach

abbrev pub after_redo : Outline → List Former → Outline
after_redo o [] = o
after_redo o (e ∷ future) = moved_to (record o { past = former o.base e.reach ∷ o.past; future = future }) e.tree e.reach

-- the outline after a command that is no stroke took effect
abbrev pub after_command : Outline → Command → Outline
after_command o (command.Change change) = after_change o (changed (λ _. tt) change o.base)
after_command o command.Undo = after_undo o o.past
after_command o command.Redo = after_redo o o.future
after_command o (command.Purge n) = record o { past = take n o.past }
after_command o c = o

abbrev pub acted_by : Outline → Option Command → Option Outline
acted_by o None = None
acted_by o (Some c) = when (may_act o c) (after_command (record (popped o) { present = o.base }) c)

abbrev pub acted : Outline → Option Outline
acted o = acted_by o (other_in o.left)

-- the first of begun, finished, cancelled and acted that may happen
abbrev pub stepped : Outline → Option Outline
stepped o = first_of (begun o) (first_of (finished o) (first_of (cancelled o) (acted o)))

-- whether every entry has its outcome, and nothing runs or waits
abbrev pub is_settled : Outline → Bool
is_settled o = is_done o.left && (list_all is_free o.slots && is_clean o)

-- the answer to what leads from the old outline to that one, or may not happen
abbrev pub Follows : Result Bool NoMemory → Option Outline → Outline → Outline → Type 0
Follows (Ok true) next old new = next ≡ Some new
Follows (Ok false) next old new = (next ≡ None) × (new ≡ old)
Follows (Err e) next old new = Unit {0}
