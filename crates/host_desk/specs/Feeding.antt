-- What becomes of commands that are to be fed.
use Rattle.std.specs.Prelude.{◌≡◌, ◌⊎◌, ◌<◌, ◌+◌, ◌-◌, ◌^◌, ℕ, false, if◌then◌else◌, Option, Some, None, Result, Ok, Err, List, [], ◌∷◌, map, take, length}
use Rattle.std.specs.Option.{option_map}
use Rattle.doc_model.specs.declared.command.Command.{Command}
use Rattle.doc_model.specs.declared.command.Command.TheVariants as command
use Rattle.doc_model.specs.declared.job.Job.{Job}
use Rattle.doc_model.specs.Jobs.{checks}
use Rattle.doc_model.specs.Strokes.{entries}
use Rattle.doc_model.specs.Trails.{Trail}
use Rattle.command_log.specs.Misfits.{jobs_misfit, misfit_of}
use Rattle.script_lines.specs.declared.cause.Cause.{Cause}
use Rattle.script_lines.specs.declared.cause.Cause.TheVariants.{OutOfWorld}
use Rattle.script_text.specs.Paths.{adding}
use Rattle.script_text.specs.Reading.{cause_of}
use Rattle.machine_model.specs.State.{State}
use Rattle.machine_model.specs.Event.{Feed}
use Rattle.machine_model.specs.Step.{Run}
use Rattle.host_lines.specs.declared.answer.Answer.{Answer}
use Rattle.host_lines.specs.declared.answer.Answer.TheVariants as answer
use Rattle.host_lines.specs.declared.line.Line.{Line}
use Rattle.host_lines.specs.Lines.{commands_of, fault_of, line_fault, said}
use Rattle.host_lines.specs.Said.{track_told}

-- these commands were fed, one after another
abbrev pub Feeds : State → List Command → State → Type 0
Feeds s cs t = Run s (map Feed cs) t

-- some of them, from the first on, or none, but not all
pub record FeedsFront (s : State) (cs : List Command) (t : State) : Type 0 where
  pub count : ℕ
  pub short : count < length cs
  pub run : Feeds s (take count cs) t

-- what became of commands that were to be fed, where that is wrong with them
abbrev pub Fed : State → Option Cause → List Command → Answer → State → Type 0
Fed s fault cs answer.Done t = (fault ≡ None) × Feeds s cs t
Fed s fault cs (answer.Fault c) t = (fault ≡ Some c) × (t ≡ s)
Fed s fault cs answer.Full t = (fault ≡ None) × (2 ^ 32 - 2 < length s.fed + length cs) × (t ≡ s)
Fed s fault cs answer.NoMemory t = (t ≡ s) ⊎ ((fault ≡ None) × FeedsFront s cs t)
Fed s fault cs a t = ⊥

-- the command adds a job that leaves the world
abbrev pub Leaves : Command → Type 0
Leaves (command.Add n kind job) = checks job ≡ false
Leaves c = ⊥

-- what is wrong with a command after those, its job's own limits aside
abbrev pub command_fault : List Command → Command → Option Cause
command_fault fed (command.Add n kind job) = if checks job then option_map cause_of (misfit_of (entries fed) (command.Add n kind job)) else Some OutOfWorld
command_fault fed c = option_map cause_of (misfit_of (entries fed) c)

-- what became of a text's first line
abbrev pub FedLine : State → List ℕ → Answer → State → Type 0
FedLine s text a t = Fed s (line_fault s.canvas s.fed text) (said text) a t

-- of what a line says
abbrev pub FedTold : State → Line → Answer → State → Type 0
FedTold s l a t = Fed s (fault_of s.fed l) (commands_of l) a t

-- of the path of these numbers, or what is wrong with them was told
abbrev pub FedPath : Result (ℕ × Trail) Cause → State → Answer → State → Type 0
FedPath told s a t = FedTold s (track_told told) a t

-- of a command
abbrev pub FedValue : State → Command → Answer → State → Type 0
FedValue s c a t = Fed s (command_fault s.fed c) (c ∷ []) a t

-- of one whose job, if it has one, meets its limits
abbrev pub FedOne : State → Command → Answer → State → Type 0
FedOne s c a t = Fed s (option_map cause_of (misfit_of (entries s.fed) c)) (c ∷ []) a t

-- of jobs of a stroke, each beside the others
abbrev pub FedBeside : State → ℕ → List Job → Answer → State → Type 0
FedBeside s n js a t = Fed s (option_map cause_of (jobs_misfit (entries s.fed) n (length js))) (adding n js) a t

-- the answer to feeding that may want memory
abbrev pub answer_by : {E : Type 0} → Result (Unit {0}) E → Answer
answer_by (Ok u) = answer.Done
answer_by (Err e) = answer.NoMemory
