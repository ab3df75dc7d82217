-- How many events are left at most, where nothing more is fed.
use Rattle.std.specs.Prelude.{ℕ, ◌+◌, ◌*◌, not, Option, Some, None, List, [], ◌∷◌, map, length, drop}
use Rattle.std.specs.List.{filter, list_any}
use Rattle.geom_core.specs.Grid.{Key, same_key, keys_of, all_keys_of}
use Rattle.doc_model.specs.declared.job.Job.{Job}
use Rattle.doc_model.specs.Jobs.{writes}
use Rattle.doc_model.specs.Strokes.{Jobs, Entry, Strokes}
use Rattle.machine_model.specs.State.{Child, Slot, Free, Paints, Walks, State, waiting}
use Rattle.machine_model.specs.Guards.{same_pair}

-- a patch that waits starts a walk, which publishes pairs of at most 257 groups and the 16 tiles of a cell, and ends
unfoldable pub patch_events : ℕ
patch_events = 2 + 257 * 16

-- so do all patches that may wait at once
abbrev pub queue_events : ℕ
queue_events = 64 * patch_events

-- the tiles that aren't published
abbrev pub tiles_left : List Key → List Key → List Key
tiles_left published keys = filter (λ k. not (list_any (same_key k) published)) keys

-- the tiles that aren't published of the group
abbrev pub group_left : List (ℕ × Key) → List Key → ℕ → List Key
group_left published keys g = filter (λ k. not (list_any (same_pair g k) published)) keys

-- how many pairs of the groups and the tiles aren't published
abbrev pub pairs_left : List (ℕ × Key) → List Key → List ℕ → ℕ
pairs_left published keys [] = 0
pairs_left published keys (g ∷ gs) = length (group_left published keys g) + pairs_left published keys gs

-- a job at work publishes its tiles and ends, and what then waits is walked
abbrev pub job_left : Job → List Key → ℕ
job_left job published = length (tiles_left published (all_keys_of (writes job))) + (1 + queue_events)

-- a walk at work publishes its pairs and ends
abbrev pub slot_left : Slot → ℕ
slot_left Free = 0
slot_left (Paints w) = job_left w.job w.published
slot_left (Walks w) = pairs_left w.published (keys_of w.patch.rect) (map (λ (e : ℕ × List Child). e.0) w.shot) + 1

-- all slots
abbrev pub slots_left : List Slot → ℕ
slots_left [] = 0
slots_left (slot ∷ slots) = slot_left slot + slots_left slots

-- jobs start
abbrev pub jobs_left : Jobs → ℕ
jobs_left [] = 0
jobs_left (j ∷ jobs) = (1 + job_left j.1 []) + jobs_left jobs

-- an entry leaves the queue, and what then waits is walked; before it a stroke begins, of which so many jobs were started if it is begun, and the other jobs start
abbrev pub entry_left : Option ℕ → Entry → ℕ
entry_left None (Strokes stroke) = jobs_left stroke.jobs + (2 + queue_events)
entry_left (Some n) (Strokes stroke) = jobs_left (drop n stroke.jobs) + (1 + queue_events)
entry_left way e = 1 + queue_events

-- the entries in the queue, the first of them on its way
abbrev pub entries_left : Option ℕ → List Entry → ℕ
entries_left way [] = 0
entries_left way (e ∷ es) = entry_left way e + entries_left None es

-- all that is left
abbrev pub left : State → ℕ
left s = entries_left s.way (waiting s) + (slots_left s.slots + patch_events * length s.updates)
