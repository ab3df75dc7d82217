-- Lines of paths, each of which stands for one job in each tile that its dabs meet.
use Rattle.std.specs.Prelude.{ℕ, ◌+◌, nat_le, if◌then◌else◌, Option, Some, None, List, [], ◌∷◌, map, length}
use Rattle.std.specs.Option.{option_or}
use Rattle.std.specs.Result.{result_ok}
use Rattle.std.specs.Str.{bytes_eq}
use Rattle.doc_model.specs.declared.job.Kind.TheVariants.{Con}
use Rattle.doc_model.specs.declared.job.Job.{Job}
use Rattle.doc_model.specs.declared.command.Command.{Command}
use Rattle.doc_model.specs.declared.command.Command.TheVariants as command
use Rattle.doc_model.specs.Trails.{Trail}
use Rattle.doc_model.specs.Strokes.{Entry}
use Rattle.brush_path.specs.Cells.{jobs}
use Rattle.command_log.specs.declared.refusal.Misfit.{Misfit}
use Rattle.command_log.specs.declared.refusal.Misfit.TheVariants.{TooManyJobs}
use Rattle.command_log.specs.Misfits.{jobs_misfit}
use Rattle.script_forms.specs.Forms.{path_text}
use Rattle.script_forms.specs.Jobs.{Fields, path}

-- the path that a line says
abbrev pub path_in : Fields → Option (ℕ × Trail)
path_in [] = None
path_in (word ∷ others) = if bytes_eq word path_text then result_ok (path others) else None

-- the commands that add these jobs to a stroke, each beside the others
abbrev pub adding : ℕ → List Job → List Command
adding n js = map (command.Add n Con) js

-- the jobs of a path
abbrev pub path_jobs : Option (ℕ × Trail) → List Job
path_jobs None = []
path_jobs (Some p) = jobs p.1

-- the commands that a path stands for
abbrev pub path_commands : Option (ℕ × Trail) → List Command
path_commands None = []
path_commands (Some p) = adding p.0 (jobs p.1)

-- how many tiles a line's path meets
abbrev pub cells_in : Fields → ℕ
cells_in fields = length (path_jobs (path_in fields))

-- why a path can't follow the commands that made these entries, and paths that meet so many tiles together
abbrev pub path_misfit : List Entry → ℕ → ℕ → Trail → Option Misfit
path_misfit es cells n t = option_or (jobs_misfit es n (length (jobs t))) (if nat_le (cells + length (jobs t)) 65536 then None else Some TooManyJobs)
