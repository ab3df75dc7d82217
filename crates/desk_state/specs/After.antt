-- What each event leaves of the parts of a desk.
use Rattle.std.specs.Prelude.{ℕ, suc, true, Option, Some, None, List, [], ◌∷◌, ◌++◌, drop, slice_set}
use Rattle.std.specs.FinSet as set
use Rattle.std.specs.Ordering.{nat_cmp}
use Rattle.std.specs.FinMap.{FinMap}
use Rattle.geom_core.specs.Areas.{Area}
use Rattle.doc_model.specs.declared.command.Command.{Command}
use Rattle.doc_model.specs.declared.command.Outcome.{Outcome}
use Rattle.doc_model.specs.declared.job.Job.{Job}
use Rattle.doc_model.specs.Jobs.{writes}
use Rattle.doc_model.specs.Layers.{Layer}
use Rattle.doc_model.specs.Picture.{Doc}
use Rattle.doc_model.specs.Updates.{refreshed}
use Rattle.frame_core.specs.Frames.{Scene}
use Rattle.job_core.specs.Paints.{Paint}
use Rattle.tile_core.specs.Shots.{Sight}
use Rattle.entry_queue.specs.Pushed.{Pending, pushed}
use Rattle.desk_steps.specs.Archives.{Archive, with_put, finished, reverted}
use Rattle.machine_model.specs.State.{Reach, Whole, Part}
use Rattle.machine_model.specs.Groups.{parent_of}
use Rattle.machine_model.specs.Effects.{caches_for, without_nth}
use Rattle.geom_core.specs.Touches.{bound_of}
use Rattle.desk_state.specs.declared.work.Painter.{Painter}
use Rattle.desk_state.specs.declared.work.Walker.{Walker}
use Rattle.desk_state.specs.declared.work.Work.{Work}
use Rattle.desk_state.specs.declared.work.Work.TheVariants as work
use Rattle.slot_core.specs.declared.Busy.{Busy}
use Rattle.update_queue.specs.Waiting.{Waiting, waiting, widened_by, widened_by_all}
use Rattle.desk_state.specs.Parts.{Parts}

-- a job is at work
abbrev pub busy_painter : Painter → Busy Work
busy_painter w = record { work = work.Paint w; walker = None }

-- the queue without its first entry, which has that outcome
abbrev pub popped : Pending → Outcome → Pending
popped q o = record { left = drop 1 q.left; outcomes = q.outcomes ++ o ∷ [] }

-- a tile of the job in a slot was painted
abbrev pub after_publish : Parts → ℕ → Painter → Paint → Parts
after_publish d place w p = record d {
  store = with_put d.store.way p d.store;
  slots = slice_set d.slots place (Some (busy_painter (record w { published = p.key ∷ w.published })));
}

-- the job in a slot ended, and what it writes waits for the group
abbrev pub after_end : Parts → ℕ → Painter → ℕ → Parts
after_end d place w g = record d {
  slots = slice_set d.slots place None;
  updates = widened_by_all d.updates g (writes w.job);
}

-- the stroke under way is done
abbrev pub after_done : Parts → Outcome → Parts
after_done d o = record d { store = finished d.store.way d.store; queue = popped d.queue o; way = None }

-- the stroke at the head leaves nothing: it is reverted, and a rectangle of its layer's group waits
abbrev pub after_revert : Parts → Outcome → ℕ → Option Area → Parts
after_revert d o g bound = record d { store = reverted d.store; queue = popped d.queue o; way = None; updates = widened_by d.updates g bound }

-- the entry at the head has that outcome, and nothing else changes
abbrev pub after_outcome : Parts → Outcome → Parts
after_outcome d o = record d { queue = popped d.queue o }

-- one more command was fed
abbrev pub after_feed : Parts → Command → Parts
after_feed d c = record d { fed = d.fed ++ c ∷ []; queue = record d.queue { left = pushed d.queue.left c } }

-- the stroke at the head, on that layer, is begun, and no job of it is started
abbrev pub after_init : Parts → ℕ → Parts
after_init d layer = record d { store = record d.store { way = Some (layer, set.empty); room = true }; way = Some 0 }

-- a job as it starts
abbrev pub starting : Parts → ℕ → Job → Sight → Painter
starting d n job shot = record { serial = d.next; index = n; job = job; shot = shot; published = [] }

-- the job with the index n is at work in a slot
abbrev pub after_start : Parts → ℕ → ℕ → Job → Sight → Parts
after_start d place n job shot = record d { slots = slice_set d.slots place (Some (busy_painter (starting d n job shot))); way = Some (suc n); next = suc d.next }

-- the entry at the head, which is no stroke, took effect and has that outcome
abbrev pub after_act : Parts → Outcome → Archive → FinMap nat_cmp Layer → Waiting → List Scene → Parts
after_act d o store caches updates frames = record d { store = store; queue = popped d.queue o; caches = caches; updates = updates; frames = frames }

-- what waits after a change of that reach, which leaves the document
abbrev pub moved_updates : Waiting → Doc → Reach → Waiting
moved_updates u new Whole = waiting u.canvas (refreshed u.canvas u.patches u.canvas)
moved_updates u new (Part layer keys) = widened_by u (parent_of layer new) (bound_of (set.items keys))

-- the caches after it
abbrev pub moved_caches : FinMap nat_cmp Layer → Doc → Reach → FinMap nat_cmp Layer
moved_caches caches new Whole = caches_for caches new
moved_caches caches new (Part layer keys) = caches

-- a walk is at work
abbrev pub busy_walker : Walker → Busy Work
busy_walker w = record { work = work.Walk w; walker = Some w.inputs.patch.rect }

-- the walk is at work in a slot
abbrev pub after_walk_start : Parts → ℕ → ℕ → Walker → Parts
after_walk_start d place i w = record d {
  updates = waiting d.updates.canvas (without_nth d.updates.patches i);
  slots = slice_set d.slots place (Some (busy_walker w));
  next = suc d.next;
}

-- a tile of a group was composed
abbrev pub after_walk_publish : Parts → ℕ → Walker → FinMap nat_cmp Layer → Parts
after_walk_publish d place w caches = record d { caches = caches; slots = slice_set d.slots place (Some (busy_walker w)) }

-- the slot is free
abbrev pub after_walk_end : Parts → ℕ → Parts
after_walk_end d place = record d { slots = slice_set d.slots place None }
