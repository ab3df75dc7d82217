-- Commands, the entries that they make, which of these are open, and conflicts of jobs.
use Rattle.std.specs.Prelude.{ℕ, suc, nat_lt, ◌-◌, ◌==◌, Bool, true, false, ◌||◌, ◌&&◌, not, if◌then◌else◌, Option, Some, None, List, [], ◌∷◌, ◌++◌, map, length, slice_get}
use Rattle.std.specs.List.{list_any, list_all, find, flat_map, range_with_len}
use Rattle.std.specs.Option.{option_map}
use Rattle.geom_core.specs.Areas.{Area, meets}
use Rattle.doc_model.specs.declared.job.Job.{Job}
use Rattle.doc_model.specs.declared.job.Kind.{Kind}
use Rattle.doc_model.specs.declared.job.Kind.TheVariants.{Con, Uni}
use Rattle.doc_model.specs.declared.tree.Change.{Change}
use Rattle.doc_model.specs.declared.command.Command.{Command}
use Rattle.doc_model.specs.declared.command.Command.TheVariants as command
use Rattle.doc_model.specs.Jobs.{reads, writes}

-- the jobs of a stroke with their kinds
abbrev pub Jobs : Type 0
Jobs = List (Kind × Job)

-- whether a stroke was closed, and how
pub data Fate : Type 0 where
  Open : Fate
  Ended : Fate
  Cancelled : Fate

-- a stroke as it was fed so far
pub record Stroke : Type 0 where
  pub no : ℕ
  pub layer : ℕ
  pub exclusive : Bool
  pub jobs : Jobs
  pub fate : Fate

-- one entry
pub data Entry : Type 0 where
  Strokes : Stroke → Entry
  Changes : Change → Entry
  Undoes : Entry
  Redoes : Entry
  Purges : ℕ → Entry
  Exports : Entry

-- the stroke number n with one more job
abbrev pub with_job : ℕ → Kind → Job → Entry → Entry
with_job n kind job (Strokes s) = if s.no == n then Strokes (record s { jobs = s.jobs ++ (kind, job) ∷ [] }) else Strokes s
with_job n kind job e = e

-- the stroke number n with that fate
abbrev pub with_fate : ℕ → Fate → Entry → Entry
with_fate n fate (Strokes s) = if s.no == n then Strokes (record s { fate = fate }) else Strokes s
with_fate n fate e = e

-- the entries after one more command
abbrev pub fed : List Entry → Command → List Entry
fed es (command.Change change) = es ++ Changes change ∷ []
fed es (command.Stroke n layer exclusive) = es ++ Strokes (record { no = n; layer = layer; exclusive = exclusive; jobs = []; fate = Open }) ∷ []
fed es (command.Add n kind job) = map (with_job n kind job) es
fed es (command.End n) = map (with_fate n Ended) es
fed es (command.Cancel n) = map (with_fate n Cancelled) es
fed es command.Undo = es ++ Undoes ∷ []
fed es command.Redo = es ++ Redoes ∷ []
fed es (command.Purge keep) = es ++ Purges keep ∷ []
fed es command.Export = es ++ Exports ∷ []

-- the entries after more commands
abbrev pub all_fed : List Entry → List Command → List Entry
all_fed es [] = es
all_fed es (c ∷ cs) = all_fed (fed es c) cs

-- the entries that the commands make
abbrev pub entries : List Command → List Entry
entries commands = all_fed [] commands

-- whether the entry is the stroke with that number
abbrev pub is_stroke : ℕ → Entry → Bool
is_stroke n (Strokes s) = s.no == n
is_stroke n e = false

-- whether the stroke is still open
abbrev pub is_open : Fate → Bool
is_open Open = true
is_open fate = false

-- whether the entry is the stroke with that number, still open
abbrev pub is_open_stroke : ℕ → Entry → Bool
is_open_stroke n (Strokes s) = (s.no == n) && is_open s.fate
is_open_stroke n e = false

-- whether the entry is the stroke with that number, with fewer than 4096 jobs
abbrev pub has_room : ℕ → Entry → Bool
has_room n (Strokes s) = (s.no == n) && nat_lt (length s.jobs) 4096
has_room n e = false

-- whether the entry is an export
abbrev pub is_export : Entry → Bool
is_export Exports = true
is_export e = false

-- whether a job may stand in a run
abbrev pub runs : Kind → Bool
runs Con = true
runs Uni = true
runs kind = false

-- whether a job is uniquely concurrent
abbrev pub is_uni : Kind → Bool
is_uni Uni = true
is_uni kind = false

-- whether some rectangle of the one meets some of the other
abbrev pub any_meet : List Area → List Area → Bool
any_meet one other = list_any (λ a. list_any (λ b. meets a b) other) one

-- whether both are there and pass the test
abbrev pub some_both : {A B : Type 0} → Option A → Option B → (A → B → Bool) → Bool
some_both None y test = false
some_both (Some x) None test = false
some_both (Some x) (Some y) test = test x y

-- whether it is there and passes the test
abbrev pub passes : {A : Type 0} → Option A → (A → Bool) → Bool
passes None test = false
passes (Some x) test = test x

-- whether the job at a place may stand in a run; places count from 0
abbrev pub runs_at : Jobs → ℕ → Bool
runs_at jobs k = passes (slice_get jobs k) (λ (j : Kind × Job). runs j.0)

-- whether the jobs at the places i to j stand in one run
abbrev pub one_run : Jobs → ℕ → ℕ → Bool
one_run jobs i j = list_all (runs_at jobs) (range_with_len i (suc j - i))

-- whether one of the jobs writes what the other reads
abbrev pub disturb : Job → Job → Bool
disturb a b = any_meet (writes a) (reads b) || any_meet (writes b) (reads a)

-- whether jobs of one run conflict
abbrev pub clash : Kind × Job → Kind × Job → Bool
clash a b = disturb a.1 b.1 && not (is_uni a.0 && is_uni b.0)

-- whether the jobs at the places i and j conflict, i before j
abbrev pub conflicting : Jobs → ℕ → ℕ → Bool
conflicting jobs i j = one_run jobs i j && some_both (slice_get jobs i) (slice_get jobs j) clash

-- the pairs of a place below n and one before it, in the order of the later place, and then of the earlier
abbrev pub pairs : ℕ → List (ℕ × ℕ)
pairs n = flat_map (λ (j : ℕ). map (λ (i : ℕ). (i, j)) (range_with_len 0 j)) (range_with_len 0 n)

-- the first of these pairs whose jobs conflict: that with the least second number, and among these the least first; jobs are numbered from 1
unfoldable pub conflict : Jobs → Option (ℕ × ℕ)
conflict jobs = option_map (λ (p : ℕ × ℕ). (suc p.0, suc p.1)) (find (λ (p : ℕ × ℕ). conflicting jobs p.0 p.1) (pairs (length jobs)))
