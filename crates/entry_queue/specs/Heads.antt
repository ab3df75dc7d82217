-- The entry at the head of a queue.
use Rattle.std.specs.Prelude.{Bool, true, false, Option, Some, None, is_some, List, [], ◌∷◌, length}
use Rattle.doc_model.specs.Strokes.{Jobs}
use Rattle.stroke_core.specs.Fed.{Fed}
use Rattle.entry_queue.specs.declared.entry.Entry.{Entry}
use Rattle.entry_queue.specs.declared.entry.Entry.TheVariants.{Waiting, Whole, Other}
use Rattle.entry_queue.specs.declared.head.HeadStroke.{HeadStroke}

-- what is known of a stroke
abbrev pub head_of : Fed → Bool → Bool → HeadStroke
head_of s closed cancelled = record { layer = s.layer; exclusive = s.exclusive; closed = closed; cancelled = cancelled; overlaps = is_some s.overlap; jobs = length s.jobs }

-- the stroke at the head
abbrev pub head_in : List Entry → Option HeadStroke
head_in [] = None
head_in (Waiting s ∷ es) = Some (head_of s false false)
head_in (Whole c ∷ es) = Some (head_of c.stroke true c.cancelled)
head_in (Other c ∷ es) = None

-- its kept jobs
abbrev pub jobs_in : List Entry → Jobs
jobs_in [] = []
jobs_in (Waiting s ∷ es) = s.jobs
jobs_in (Whole c ∷ es) = c.stroke.jobs
jobs_in (Other c ∷ es) = []
