-- The steps of the machine: when each event may happen, and what it leaves.
use Rattle.std.specs.Prelude.{◌≡◌, ℕ, suc, true, false, ◌||◌, Some, None, List, [], ◌∷◌, ◌++◌, map, length, slice_get, slice_set}
use Rattle.std.specs.List.{list_any}
use Rattle.std.specs.FinMap as map
use Rattle.std.specs.FinSet as set
use Rattle.geom_core.specs.Grid.{Key, same_key, keys_of, all_keys_of, key_set}
use Rattle.doc_model.specs.declared.job.Job.{Job}
use Rattle.doc_model.specs.declared.job.Kind.{Kind}
use Rattle.doc_model.specs.declared.canvas.Patch.{Patch}
use Rattle.doc_model.specs.Layers.{painted}
use Rattle.doc_model.specs.Jobs.{reads, writes}
use Rattle.doc_model.specs.Shots.{shot_of, published, in_tile}
use Rattle.doc_model.specs.Adjusting.{adjusted}
use Rattle.doc_model.specs.Picture.{canvas_area}
use Rattle.doc_model.specs.Lawful.{may_follow}
use Rattle.doc_model.specs.Strokes.{Stroke, Entry, Exports, entries, conflict}
use Rattle.machine_model.specs.State.{Child, Painter, Walker, Free, Paints, Walks, State, head, head_stroke}
use Rattle.machine_model.specs.Event.{Event, Feed, Init, Start, Publish, End, Finish, Cancel, Act, WalkStart, WalkPublish, WalkEnd}
use Rattle.machine_model.specs.Slots.{no_painter, no_walker}
use Rattle.machine_model.specs.Groups.{cache, on, parent_of}
use Rattle.machine_model.specs.Guards.{kept_jobs, is_cancelled, is_ended, is_closed, overlaps, is_paint, blocks, is_bar, is_exclusive, meets_walker, same_pair}
use Rattle.machine_model.specs.Walks.{walk_value, walk_shot}
use Rattle.machine_model.specs.Effects.{updates_with, updates_with_all, bound_of, writes_of, started_jobs, after_entry, layer_in, after_finish, cancel_outcome, without_nth}

-- the stroke at the head begins
pub record InitStep (old new : State) : Type 0 where
  pub stroke : Stroke
  pub at_head : head_stroke old ≡ Some stroke
  pub not_begun : old.way ≡ None
  pub not_cancelled : is_cancelled stroke ≡ false
  pub no_overlap : overlaps stroke ≡ false
  pub on_paint : is_paint stroke.layer old.base ≡ true
  pub alone : stroke.exclusive ≡ true → no_walker old ≡ true
  pub new_is : new ≡ record old { way = Some 0 }

-- the next job starts in a free slot
pub record StartStep (old : State) (place : ℕ) (new : State) : Type 0 where
  pub stroke : Stroke
  pub at_head : head_stroke old ≡ Some stroke
  pub next : ℕ
  pub begun : old.way ≡ Some next
  pub not_cancelled : is_cancelled stroke ≡ false
  pub no_overlap : overlaps stroke ≡ false
  pub free : slice_get old.slots place ≡ Some Free
  pub job : Kind × Job
  pub is_next : slice_get (kept_jobs stroke) next ≡ Some job
  pub unblocked : list_any (blocks (kept_jobs stroke) job.0) old.slots ≡ false
  pub barrier : is_bar job.0 ≡ true → stroke.exclusive ≡ false → (no_walker old ≡ true) × (old.updates ≡ [])
  pub new_is : new ≡ record old {
    way = Some (suc next);
    next = suc old.next;
    slots = slice_set old.slots place (Paints (record { serial = old.next; index = next; job = job.1; shot = shot_of (reads job.1) (layer_in stroke.layer old.present); published = [] }));
  }

-- a tile of a job at work is painted on the layer
pub record PublishStep (old : State) (place : ℕ) (key : Key) (new : State) : Type 0 where
  pub painter : Painter
  pub runs : slice_get old.slots place ≡ Some (Paints painter)
  pub in_job : list_any (same_key key) (all_keys_of (writes painter.job)) ≡ true
  pub fresh : list_any (same_key key) painter.published ≡ false
  pub stroke : Stroke
  pub at_head : head_stroke old ≡ Some stroke
  pub new_is : new ≡ record old {
    present = adjusted stroke.layer (published painter.job painter.shot key) old.present;
    slots = slice_set old.slots place (Paints (record painter { published = key ∷ painter.published }));
  }

-- a job ends whose tiles are all published
pub record EndStep (old : State) (place : ℕ) (new : State) : Type 0 where
  pub painter : Painter
  pub runs : slice_get old.slots place ≡ Some (Paints painter)
  pub all : (key : Key) → list_any (same_key key) (all_keys_of (writes painter.job)) ≡ true → list_any (same_key key) painter.published ≡ true
  pub stroke : Stroke
  pub at_head : head_stroke old ≡ Some stroke
  pub new_is : new ≡ record old {
    slots = slice_set old.slots place Free;
    updates = updates_with_all (canvas_area old.canvas) (parent_of stroke.layer old.present) (writes painter.job) old.updates;
  }

-- the stroke at the head is done, or names no paint layer
pub record FinishStep (old new : State) : Type 0 where
  pub stroke : Stroke
  pub at_head : head_stroke old ≡ Some stroke
  pub ended : is_ended stroke ≡ true
  pub no_overlap : overlaps stroke ≡ false
  pub all_ended : is_paint stroke.layer old.base ≡ true → (old.way ≡ Some (length stroke.jobs)) × (no_painter old ≡ true)
  pub new_is : new ≡ after_finish old stroke (is_paint stroke.layer old.base)

-- the stroke at the head leaves nothing
pub record CancelStep (old new : State) : Type 0 where
  pub stroke : Stroke
  pub at_head : head_stroke old ≡ Some stroke
  pub closed : is_closed stroke ≡ true
  pub refused : (is_cancelled stroke || overlaps stroke) ≡ true
  pub idle : no_painter old ≡ true
  pub new_is : new ≡ record old {
    present = old.base;
    outcomes = old.outcomes ++ cancel_outcome (conflict stroke.jobs) ∷ [];
    way = None;
    updates = updates_with old (parent_of stroke.layer old.present) (bound_of (set.items (key_set (writes_of (started_jobs old stroke)))));
  }

-- the entry at the head, no stroke, takes effect
pub record ActStep (old new : State) : Type 0 where
  pub entry : Entry
  pub at_head : head old ≡ Some entry
  pub no_stroke : head_stroke old ≡ None
  pub no_walks : no_walker old ≡ true
  pub clean : entry ≡ Exports → old.updates ≡ []
  pub new_is : new ≡ after_entry old entry

-- a queued patch is walked in a free slot
pub record WalkStartStep (old : State) (place : ℕ) (patch : Patch) (new : State) : Type 0 where
  pub i : ℕ
  pub waits : slice_get old.updates i ≡ Some patch
  pub free : slice_get old.slots place ≡ Some Free
  pub not_exclusive : is_exclusive (head_stroke old) old.way ≡ false
  pub avoids : list_any (meets_walker patch.rect) old.slots ≡ false
  pub new_is : new ≡ record old {
    updates = without_nth old.updates i;
    next = suc old.next;
    slots = slice_set old.slots place (Walks (record { serial = old.next; patch = patch; shot = walk_shot old patch; published = [] }));
  }

-- a tile of a group is composed
pub record WalkPublishStep (old : State) (place g : ℕ) (key : Key) (new : State) : Type 0 where
  pub walker : Walker
  pub runs : slice_get old.slots place ≡ Some (Walks walker)
  pub on_path : on g (map (λ (e : ℕ × List Child). e.0) walker.shot) ≡ true
  pub in_patch : list_any (same_key key) (keys_of walker.patch.rect) ≡ true
  pub fresh : list_any (same_pair g key) walker.published ≡ false
  pub new_is : new ≡ record old {
    caches = map.insert old.caches g (painted (walker.patch.rect ∷ []) (in_tile key) (walk_value walker.shot g) (cache old.caches g));
    slots = slice_set old.slots place (Walks (record walker { published = (g, key) ∷ walker.published }));
  }

-- a walk ends whose tiles are all published
pub record WalkEndStep (old : State) (place : ℕ) (new : State) : Type 0 where
  pub walker : Walker
  pub runs : slice_get old.slots place ≡ Some (Walks walker)
  pub all : (g : ℕ) (key : Key) → on g (map (λ (e : ℕ × List Child). e.0) walker.shot) ≡ true → list_any (same_key key) (keys_of walker.patch.rect) ≡ true → list_any (same_pair g key) walker.published ≡ true
  pub new_is : new ≡ record old { slots = slice_set old.slots place Free }

-- from old, the event may happen and leave new
abbrev pub Step : State → Event → State → Type 0
Step old (Feed c) new = (may_follow (entries old.fed) c ≡ true) × (new ≡ record old { fed = old.fed ++ c ∷ [] })
Step old Init new = InitStep old new
Step old (Start place) new = StartStep old place new
Step old (Publish place key) new = PublishStep old place key new
Step old (End place) new = EndStep old place new
Step old Finish new = FinishStep old new
Step old Cancel new = CancelStep old new
Step old Act new = ActStep old new
Step old (WalkStart place patch) new = WalkStartStep old place patch new
Step old (WalkPublish place g key) new = WalkPublishStep old place g key new
Step old (WalkEnd place) new = WalkEndStep old place new

-- the events may happen one after another
abbrev pub Run : State → List Event → State → Type 0
Run old [] new = new ≡ old
Run old (e ∷ es) new = (mid : State) × Step old e mid × Run mid es new
