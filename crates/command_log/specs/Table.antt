-- What is kept of a stroke while commands are added.
use Rattle.std.specs.Prelude.{◌≡◌, ℕ, ◌+◌, ◌==◌, nat_le, nat_lt, Bool, true, false, ◌&&◌, if◌then◌else◌, Option, Some, None, is_some, List, length}
use Rattle.std.specs.List.{list_any}
use Rattle.std.specs.Ordering.{nat_cmp}
use Rattle.std.specs.BTreeMap.{get}
use Rattle.doc_model.specs.declared.command.Command.{Command}
use Rattle.doc_model.specs.declared.command.Command.TheVariants as command
use Rattle.doc_model.specs.Strokes.{Entry, Strokes, is_stroke, is_open_stroke}
use Rattle.command_log.specs.declared.refusal.Misfit.{Misfit}
use Rattle.command_log.specs.declared.refusal.Misfit.TheVariants.{UsedAgain, UnknownStroke, ClosedStroke, TooManyJobs, TooManyExports}
use Rattle.command_log.specs.declared.table.Fed.{Fed}
use Rattle.command_log.specs.declared.table.Stroke.{Stroke}
use Rattle.command_log.specs.declared.table.Table.{Table}

-- what is kept under the number m, of a stroke at hand or else of an older one
abbrev pub at_hand : Option Stroke → ℕ → Option Fed → Option Fed
at_hand None m older = older
at_hand (Some s) m older = if s.no == m then Some s.fed else older

-- what a table keeps of the stroke with the number m
abbrev pub kept : Table → ℕ → Option Fed
kept t m = at_hand t.newest m (get nat_cmp t.older m)

abbrev pub is_open : Option Fed → Bool
is_open None = false
is_open (Some f) = f.live

abbrev pub has_fewer : ℕ → Option Fed → Bool
has_fewer k None = false
has_fewer k (Some f) = nat_lt f.jobs k

-- whether the entry is the stroke with that number, with fewer than k jobs
abbrev pub fewer : ℕ → ℕ → Entry → Bool
fewer k n (Strokes s) = (s.no == n) && nat_lt (length s.jobs) k
fewer k n e = false

-- what is kept tells of the stroke with that number
pub record Tells (es : List Entry) (n : ℕ) (found : Option Fed) : Type 0 where
  pub started : list_any (is_stroke n) es ≡ is_some found
  pub live : list_any (is_open_stroke n) es ≡ is_open found
  pub room : (k : ℕ) → list_any (fewer k n) es ≡ has_fewer k found

-- the number of the stroke that a command is about
abbrev pub stroke_of : Command → Option ℕ
stroke_of (command.Stroke n layer exclusive) = Some n
stroke_of (command.Add n kind job) = Some n
stroke_of (command.End n) = Some n
stroke_of (command.Cancel n) = Some n
stroke_of c = None

abbrev pub one_more : Option Fed → Option Fed
one_more None = None
one_more (Some f) = Some (record f { jobs = f.jobs + 1 })

abbrev pub closed : Option Fed → Option Fed
closed None = None
closed (Some f) = Some (record f { live = false })

-- what is kept of a stroke that starts
abbrev pub just_started : Fed
just_started = record { live = true; jobs = 0 }

-- what is kept of that stroke after the command
abbrev pub after : Option Fed → Command → Option Fed
after found (command.Stroke n layer exclusive) = Some just_started
after found (command.Add n kind job) = one_more found
after found (command.End n) = closed found
after found (command.Cancel n) = closed found
after found c = found

-- what is kept under the number m, where it becomes new under the number that a command is about
abbrev pub at_number : Option ℕ → ℕ → Option Fed → Option Fed → Option Fed
at_number None m new old = old
at_number (Some n) m new old = if n == m then new else old

-- what is kept under the number m after the command
abbrev pub next_fed : Command → ℕ → Option Fed → Option Fed
next_fed c m old = at_number (stroke_of c) m (after old c) old

-- how many exports there are after the command
abbrev pub exports_after : ℕ → Command → ℕ
exports_after n command.Export = n + 1
exports_after n c = n

-- why it can't be started, closed or given a job
abbrev pub start_misfit : Option Fed → Option Misfit
start_misfit None = None
start_misfit (Some f) = Some UsedAgain

abbrev pub close_misfit : Option Fed → Option Misfit
close_misfit None = Some UnknownStroke
close_misfit (Some f) = if f.live then None else Some ClosedStroke

abbrev pub job_misfit : Option Fed → Option Misfit
job_misfit None = Some UnknownStroke
job_misfit (Some f) = if f.live then (if nat_lt f.jobs 4096 then None else Some TooManyJobs) else Some ClosedStroke

-- why so many jobs can't be given to it
abbrev pub kept_misfit : ℕ → Option Fed → Option Misfit
kept_misfit k None = Some UnknownStroke
kept_misfit k (Some f) = if f.live then (if nat_le (f.jobs + k) 4096 then None else Some TooManyJobs) else Some ClosedStroke

-- why the command can't be added to strokes of which that is kept
abbrev pub stroke_misfit : (ℕ → Option Fed) → Command → Option Misfit
stroke_misfit kept (command.Stroke n layer exclusive) = start_misfit (kept n)
stroke_misfit kept (command.Add n kind job) = job_misfit (kept n)
stroke_misfit kept (command.End n) = close_misfit (kept n)
stroke_misfit kept (command.Cancel n) = close_misfit (kept n)
stroke_misfit kept c = None

-- why it can't be added to that many exports
abbrev pub export_misfit : ℕ → Command → Option Misfit
export_misfit n command.Export = if nat_lt n 64 then None else Some TooManyExports
export_misfit n c = None
