-- The entries that are left, and what a command does to them.
use Rattle.std.specs.Prelude.{◌≡◌, ℕ, ◌==◌, ◌<◌, ◌≤◌, nat_lt, Bool, true, false, ◌&&◌, not, if◌then◌else◌, Option, Some, None, List, [], ◌∷◌, ◌++◌, map, length, drop, take}
use Rattle.std.specs.List.{list_any, list_all}
use Rattle.doc_model.specs.declared.job.Job.{Job}
use Rattle.doc_model.specs.declared.job.Kind.{Kind}
use Rattle.doc_model.specs.declared.command.Command.{Command}
use Rattle.doc_model.specs.declared.command.Command.TheVariants as command
use Rattle.doc_model.specs.declared.command.Outcome.{Outcome}
use Rattle.doc_model.specs.Feeding.{is_closed_entry}
use Rattle.doc_model.specs.Jobs.{checks}
use Rattle.doc_model.specs.Strokes as doc
use Rattle.doc_model.specs.Strokes.{Fate, Open, Ended, Cancelled, Stroke, Jobs, conflict, entries}
use Rattle.doc_model.specs.Kept.{kept}
use Rattle.stroke_core.specs.Fed.{Fed, found}
use Rattle.entry_queue.specs.declared.entry.Entry.{Entry}
use Rattle.entry_queue.specs.declared.entry.Entry.TheVariants.{Waiting, Whole, Other}

-- the entries without outcome, and the outcomes so far
pub record Pending : Type 0 where
  pub left : List Entry
  pub outcomes : List Outcome

-- a stroke with no job
abbrev pub begun : ℕ → ℕ → Bool → Fed
begun n layer exclusive = record { no = n; layer = layer; exclusive = exclusive; jobs = []; overlap = None }

-- the jobs that are kept of one more, by the pair that there is then
abbrev pub with_last : Jobs → Kind × Job → Option (ℕ × ℕ) → Jobs
with_last jobs job None = jobs ++ job ∷ []
with_last jobs job (Some pair) = jobs

-- the stroke after one more job
abbrev pub grown : Fed → Kind × Job → Fed
grown s job = record s { jobs = with_last s.jobs job (found s job); overlap = found s job }

-- the entry takes one more job: it is a waiting stroke with fewer than 4096 kept jobs
abbrev pub TakesJob : Entry → Type 0
TakesJob (Waiting s) = length s.jobs < 4096
TakesJob e = ⊥

-- the entry after one more job, where it is a waiting stroke
abbrev pub after_job : Kind × Job → Entry → Entry
after_job job (Waiting s) = Waiting (grown s job)
after_job job e = e

-- the waiting stroke with that number, after one more job
abbrev pub with_job : ℕ → Kind × Job → Entry → Entry
with_job n job (Waiting s) = if s.no == n then Waiting (grown s job) else Waiting s
with_job n job e = e

-- the waiting stroke with that number, closed
abbrev pub closed : ℕ → Bool → Entry → Entry
closed n cancelled (Waiting s) = if s.no == n then Whole (record { stroke = s; cancelled = cancelled }) else Waiting s
closed n cancelled e = e

-- the entries that are left after one more command
abbrev pub pushed : List Entry → Command → List Entry
pushed es (command.Stroke n layer exclusive) = es ++ Waiting (begun n layer exclusive) ∷ []
pushed es (command.Add n kind job) = map (with_job n (kind, job)) es
pushed es (command.End n) = map (closed n false) es
pushed es (command.Cancel n) = map (closed n true) es
pushed es c = es ++ Other c ∷ []

-- whether the entry is the waiting stroke with that number
abbrev pub is_waiting : ℕ → Entry → Bool
is_waiting n (Waiting s) = s.no == n
is_waiting n e = false

-- whether it is the waiting stroke with that number, with fewer than 4096 kept jobs
abbrev pub has_room : ℕ → Entry → Bool
has_room n (Waiting s) = (s.no == n) && nat_lt (length s.jobs) 4096
has_room n e = false

-- whether the entry is the stroke with that number
abbrev pub is_numbered : ℕ → Entry → Bool
is_numbered n (Waiting s) = s.no == n
is_numbered n (Whole c) = c.stroke.no == n
is_numbered n (Other c) = false

-- whether the queue takes the command: a new stroke has a number of its own, and a job and an end find their stroke
abbrev pub takes : List Entry → Command → Bool
takes es (command.Stroke n layer exclusive) = not (list_any (is_numbered n) es)
takes es (command.Add n kind job) = checks job && list_any (has_room n) es
takes es (command.End n) = list_any (is_waiting n) es
takes es (command.Cancel n) = list_any (is_waiting n) es
takes es c = true

-- whether the first entry may have its outcome: it is there and takes no job any more
abbrev pub may_leave : List Entry → Bool
may_leave [] = false
may_leave (Waiting s ∷ es) = false
may_leave (Whole c ∷ es) = true
may_leave (Other c ∷ es) = true

-- whether the entry takes no job any more
abbrev pub is_shut : Entry → Bool
is_shut (Waiting s) = false
is_shut (Whole c) = true
is_shut (Other c) = true

-- whether so it is of an entry that may be there
abbrev pub is_shut_if : Option Entry → Bool
is_shut_if None = true
is_shut_if (Some e) = is_shut e

-- a stroke with what is kept of its jobs, and their conflict
abbrev pub kept_of : Stroke → Fed
kept_of s = record { no = s.no; layer = s.layer; exclusive = s.exclusive; jobs = kept s.jobs; overlap = conflict s.jobs }

abbrev pub stroke_of : Fate → Fed → Entry
stroke_of Open s = Waiting s
stroke_of Ended s = Whole (record { stroke = s; cancelled = false })
stroke_of Cancelled s = Whole (record { stroke = s; cancelled = true })

-- an entry as the queue has it
abbrev pub queued : doc.Entry → Entry
queued (doc.Strokes s) = stroke_of s.fate (kept_of s)
queued (doc.Changes change) = Other (command.Change change)
queued doc.Undoes = Other command.Undo
queued doc.Redoes = Other command.Redo
queued (doc.Purges keep) = Other (command.Purge keep)
queued doc.Exports = Other command.Export

-- the queue has the entries of the commands but for those with an outcome, which are closed; a stroke has what is kept of its jobs, and their conflict
pub record StandsFor (commands : List Command) (q : Pending) : Type 0 where
  pub left_is : q.left ≡ map queued (drop (length q.outcomes) (entries commands))
  pub few : length q.outcomes ≤ length (entries commands)
  pub closed : list_all is_closed_entry (take (length q.outcomes) (entries commands)) ≡ true
