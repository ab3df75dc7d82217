-- The machine as a function: the state that an event leaves, where it may happen.
use Rattle.std.specs.Prelude.{ℕ, suc, Bool, true, false, ◌&&◌, ◌||◌, ◌==◌, not, if◌then◌else◌, Option, Some, None, List, [], ◌∷◌, ◌++◌, map, length, slice_get, slice_set}
use Rattle.std.specs.List.{list_any, list_all, position_or_len}
use Rattle.std.specs.Ordering.{int_eq}
use Rattle.std.specs.FinMap as map
use Rattle.std.specs.FinSet as set
use Rattle.geom_core.specs.Areas.{Area}
use Rattle.geom_core.specs.Grid.{Key, same_key, keys_of, all_keys_of, key_set}
use Rattle.doc_model.specs.declared.job.Job.{Job}
use Rattle.doc_model.specs.declared.job.Kind.{Kind}
use Rattle.doc_model.specs.declared.canvas.Patch.{Patch}
use Rattle.doc_model.specs.Layers.{painted}
use Rattle.doc_model.specs.Jobs.{reads, writes}
use Rattle.doc_model.specs.Shots.{shot_of, published, in_tile}
use Rattle.doc_model.specs.Adjusting.{adjusted}
use Rattle.doc_model.specs.Picture.{canvas_area}
use Rattle.doc_model.specs.Updates.{same_walk}
use Rattle.doc_model.specs.Lawful.{may_follow}
use Rattle.doc_model.specs.Strokes.{is_export, Stroke, Entry, entries, conflict}
use Rattle.machine_model.specs.State.{Child, Painter, Walker, Slot, Free, Paints, Walks, State, head, head_stroke}
use Rattle.machine_model.specs.Event.{Event, Feed, Init, Start, Publish, End, Finish, Cancel, Act, WalkStart, WalkPublish, WalkEnd}
use Rattle.machine_model.specs.Slots.{no_painter, no_walker}
use Rattle.machine_model.specs.Groups.{cache, on, parent_of}
use Rattle.machine_model.specs.Guards.{kept_jobs, is_cancelled, is_ended, is_closed, overlaps, is_paint, blocks, is_bar, is_exclusive, meets_walker, same_pair}
use Rattle.machine_model.specs.Walks.{walk_value, walk_shot}
use Rattle.machine_model.specs.Effects.{updates_with, updates_with_all, bound_of, writes_of, started_jobs, after_entry, layer_in, after_finish, cancel_outcome, without_nth}

-- the value, where the test passes
abbrev pub when : {A : Type 0} → Bool → A → Option A
when test x = if test then Some x else None

-- whether it is that number
abbrev pub is_number : ℕ → Option ℕ → Bool
is_number n None = false
is_number n (Some m) = m == n

-- whether no patch waits
abbrev pub is_clear : List Patch → Bool
is_clear [] = true
is_clear (p ∷ ps) = false

-- whether the stroke is neither cancelled nor refused
abbrev pub is_alive : Stroke → Bool
is_alive stroke = not (is_cancelled stroke) && not (overlaps stroke)

-- whether the stroke may begin: it is alive and names a paint layer, and an exclusive one has no walk beside it
abbrev pub may_begin : State → Stroke → Bool
may_begin s stroke = is_alive stroke && (is_paint stroke.layer s.base && (not stroke.exclusive || no_walker s))

-- the state once the stroke at the head began, which it may where none is under way
abbrev pub begun : State → Option Stroke → Option ℕ → Option State
begun s (Some stroke) None = when (may_begin s stroke) (record s { way = Some 0 })
begun s stroke way = None

-- whether a barrier of the stroke may start: nothing waits or is at work to be composed, or the stroke is exclusive
abbrev pub lets_bar : State → Stroke → Bool
lets_bar s stroke = stroke.exclusive || (no_walker s && is_clear s.updates)

-- whether a job of the stroke may start beside those at work
abbrev pub may_start : State → Stroke → Kind × Job → Bool
may_start s stroke job = is_alive stroke && (not (list_any (blocks (kept_jobs stroke) job.0) s.slots) && (not (is_bar job.0) || lets_bar s stroke))

-- the job at work, with what it reads
abbrev pub new_painter : State → Stroke → ℕ → Job → Slot
new_painter s stroke n job = Paints (record { serial = s.next; index = n; job = job; shot = shot_of (reads job) (layer_in stroke.layer s.present); published = [] })

-- the state with the job at work
abbrev pub with_painter : State → ℕ → Stroke → ℕ → Job → State
with_painter s place stroke n job = record s { way = Some (suc n); next = suc s.next; slots = slice_set s.slots place (new_painter s stroke n job) }

-- the state once the job with that index started, if there is one
abbrev pub job_started : State → ℕ → Stroke → ℕ → Option (Kind × Job) → Option State
job_started s place stroke n None = None
job_started s place stroke n (Some job) = when (may_start s stroke job) (with_painter s place stroke n job.1)

-- the state once the next job of the stroke under way started, in a free slot
abbrev pub started : State → ℕ → Option Stroke → Option ℕ → Option Slot → Option State
started s place (Some stroke) (Some n) (Some Free) = job_started s place stroke n (slice_get (kept_jobs stroke) n)
started s place stroke way slot = None

-- whether the tile is one of the job's and isn't published
abbrev pub may_publish : Painter → Key → Bool
may_publish w key = list_any (same_key key) (all_keys_of (writes w.job)) && not (list_any (same_key key) w.published)

-- the state with the tile on the layer
abbrev pub with_tile : State → ℕ → Key → Stroke → Painter → State
with_tile s place key stroke w = record s {
  present = adjusted stroke.layer (published w.job w.shot key) s.present;
  slots = slice_set s.slots place (Paints (record w { published = key ∷ w.published }));
}

-- the state once a tile of the job at work was published
abbrev pub tile_published : State → ℕ → Key → Option Stroke → Option Slot → Option State
tile_published s place key (Some stroke) (Some (Paints w)) = when (may_publish w key) (with_tile s place key stroke w)
tile_published s place key stroke slot = None

-- whether all tiles of the job are published
abbrev pub is_painted : Painter → Bool
is_painted w = list_all (λ key. list_any (same_key key) w.published) (all_keys_of (writes w.job))

-- the state without the job, whose writes wait for a walk
abbrev pub without_painter : State → ℕ → Stroke → Painter → State
without_painter s place stroke w = record s {
  slots = slice_set s.slots place Free;
  updates = updates_with_all (canvas_area s.canvas) (parent_of stroke.layer s.present) (writes w.job) s.updates;
}

-- the state once the job at work ended
abbrev pub ended : State → ℕ → Option Stroke → Option Slot → Option State
ended s place (Some stroke) (Some (Paints w)) = when (is_painted w) (without_painter s place stroke w)
ended s place stroke slot = None

-- whether all jobs of the stroke have ended
abbrev pub has_ended : State → Stroke → Bool
has_ended s stroke = is_number (length stroke.jobs) s.way && no_painter s

-- whether the stroke may finish: it was ended and has no conflict, and where it names a paint layer all its jobs have ended
abbrev pub may_finish : State → Stroke → Bool
may_finish s stroke = is_ended stroke && (not (overlaps stroke) && (not (is_paint stroke.layer s.base) || has_ended s stroke))

-- the state once the stroke at the head finished
abbrev pub finished : State → Option Stroke → Option State
finished s None = None
finished s (Some stroke) = when (may_finish s stroke) (after_finish s stroke (is_paint stroke.layer s.base))

-- whether the stroke may leave nothing: it was cancelled, or was closed and has a conflict, and no job is at work
abbrev pub may_cancel : State → Stroke → Bool
may_cancel s stroke = is_closed stroke && ((is_cancelled stroke || overlaps stroke) && no_painter s)

-- the state after the stroke left nothing
abbrev pub after_cancel : State → Stroke → State
after_cancel s stroke = record s {
  present = s.base;
  outcomes = s.outcomes ++ cancel_outcome (conflict stroke.jobs) ∷ [];
  way = None;
  updates = updates_with s (parent_of stroke.layer s.present) (bound_of (set.items (key_set (writes_of (started_jobs s stroke)))));
}

-- the state once the stroke at the head left nothing
abbrev pub cancelled : State → Option Stroke → Option State
cancelled s None = None
cancelled s (Some stroke) = when (may_cancel s stroke) (after_cancel s stroke)

-- whether an entry that is no stroke may take effect: no walk is at work, and for an export no patch waits either
abbrev pub may_act : State → Entry → Bool
may_act s entry = no_walker s && (not (is_export entry) || is_clear s.updates)

-- the state once the entry at the head, no stroke, took effect
abbrev pub acted : State → Option Stroke → Option Entry → Option State
acted s None (Some entry) = when (may_act s entry) (after_entry s entry)
acted s None None = None
acted s (Some stroke) entry = None

-- whether two rectangles are the same
abbrev pub same_area : Area → Area → Bool
same_area a b = (int_eq a.x b.x && int_eq a.y b.y) && ((a.w == b.w) && (a.h == b.h))

-- whether two patches are the same
abbrev pub same_patch : Patch → Patch → Bool
same_patch a b = same_walk a.walk b.walk && same_area a.rect b.rect

-- the index of the patch among those that wait, or how many wait where it isn't there
abbrev pub place_of : Patch → List Patch → ℕ
place_of patch patches = position_or_len (same_patch patch) patches

-- whether the rectangle may be walked: it meets no walk at work, and no exclusive stroke is under way
abbrev pub may_walk : State → Area → Bool
may_walk s rect = not (is_exclusive (head_stroke s) s.way) && not (list_any (meets_walker rect) s.slots)

-- the walk at work, with what it reads
abbrev pub new_walker : State → Patch → Slot
new_walker s patch = Walks (record { serial = s.next; patch = patch; shot = walk_shot s patch; published = [] })

-- the state with the walk at work, whose patch waits no more
abbrev pub with_walker : State → ℕ → ℕ → Patch → State
with_walker s place i patch = record s { updates = without_nth s.updates i; next = suc s.next; slots = slice_set s.slots place (new_walker s patch) }

-- the state once the patch with that index, if there is one, is walked in a free slot
abbrev pub walk_started : State → ℕ → ℕ → Option Patch → Option Slot → Option State
walk_started s place i (Some patch) (Some Free) = when (may_walk s patch.rect) (with_walker s place i patch)
walk_started s place i patch slot = None

-- the groups that a walk composes
abbrev pub groups_of : Walker → List ℕ
groups_of w = map (λ (e : ℕ × List Child). e.0) w.shot

-- whether the group is on the path, the tile meets the patch, and the pair isn't published
abbrev pub may_compose : Walker → ℕ → Key → Bool
may_compose w g key = on g (groups_of w) && (list_any (same_key key) (keys_of w.patch.rect) && not (list_any (same_pair g key) w.published))

-- the state with the walk's value on the tile in the group's cache
abbrev pub with_composed : State → ℕ → ℕ → Key → Walker → State
with_composed s place g key w = record s {
  caches = map.insert s.caches g (painted (w.patch.rect ∷ []) (in_tile key) (walk_value w.shot g) (cache s.caches g));
  slots = slice_set s.slots place (Walks (record w { published = (g, key) ∷ w.published }));
}

-- the state once the walk at work published a tile of a group
abbrev pub tile_composed : State → ℕ → ℕ → Key → Option Slot → Option State
tile_composed s place g key (Some (Walks w)) = when (may_compose w g key) (with_composed s place g key w)
tile_composed s place g key slot = None

-- whether all tiles of all groups of the walk are published
abbrev pub is_composed : Walker → Bool
is_composed w = list_all (λ g. list_all (λ key. list_any (same_pair g key) w.published) (keys_of w.patch.rect)) (groups_of w)

-- the state once the walk at work ended
abbrev pub walk_ended : State → ℕ → Option Slot → Option State
walk_ended s place (Some (Walks w)) = when (is_composed w) (record s { slots = slice_set s.slots place Free })
walk_ended s place slot = None

-- the state that the event leaves, or None where it may not happen. Of waiting patches that are the same the first is walked
abbrev pub next : State → Event → Option State
next s (Feed c) = when (may_follow (entries s.fed) c) (record s { fed = s.fed ++ c ∷ [] })
next s Init = begun s (head_stroke s) s.way
next s (Start place) = started s place (head_stroke s) s.way (slice_get s.slots place)
next s (Publish place key) = tile_published s place key (head_stroke s) (slice_get s.slots place)
next s (End place) = ended s place (head_stroke s) (slice_get s.slots place)
next s Finish = finished s (head_stroke s)
next s Cancel = cancelled s (head_stroke s)
next s Act = acted s (head_stroke s) (head s)
next s (WalkStart place patch) = walk_started s place (place_of patch s.updates) (slice_get s.updates (place_of patch s.updates)) (slice_get s.slots place)
next s (WalkPublish place g key) = tile_composed s place g key (slice_get s.slots place)
next s (WalkEnd place) = walk_ended s place (slice_get s.slots place)
