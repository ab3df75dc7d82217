-- What a line says, by itself and after others.
use Rattle.std.specs.Prelude.{◌≡◌, ◌≤◌, ℕ, ◌-◌, ◌==◌, Bool, true, if◌then◌else◌, Option, Some, None, List, [], ◌∷◌, length, take}
use Rattle.std.specs.List.{list_all, list_any}
use Rattle.std.specs.Option.{option_map}
use Rattle.geom_core.specs.Areas.{lies_in, world}
use Rattle.doc_model.specs.declared.canvas.Canvas.{Canvas}
use Rattle.doc_model.specs.declared.command.Command.{Command}
use Rattle.doc_model.specs.Jobs.{squares}
use Rattle.doc_model.specs.Trails.{centres}
use Rattle.doc_model.specs.Strokes.{entries}
use Rattle.brush_path.specs.Cells.{jobs}
use Rattle.command_log.specs.Misfits.{jobs_misfit, misfit_of}
use Rattle.script_lines.specs.declared.cause.Cause.{Cause}
use Rattle.script_lines.specs.Lines.{lines, is_command}
use Rattle.script_forms.specs.Jobs.{Fields}
use Rattle.script_forms.specs.Ranges.{in_range, is_sound, is_number, trail_in_range}
use Rattle.script_text.specs.Paths.{adding}
use Rattle.script_text.specs.Reading.{cause_by, cause_of, commands_in}
use Rattle.host_lines.specs.declared.line.Line.{Line}
use Rattle.host_lines.specs.declared.line.Line.TheVariants as line
use Rattle.host_lines.specs.Said.{line_told}

abbrev pub first_of : List Fields → Fields
first_of [] = []
first_of (fields ∷ others) = fields

-- the fields of a text's first line
abbrev pub first_fields : List ℕ → Fields
first_fields bytes = first_of (lines bytes)

-- whether a byte stands behind a line feed
abbrev pub has_more : List ℕ → Bool
has_more bytes = list_any (λ b. b == 10) (take (length bytes - 1) bytes)

-- what the fields of a line say by themselves
abbrev pub told_by : Fields → Line
told_by fields = if is_command fields then line_told fields else line.Blank

-- its numbers are in their ranges, and what it paints meets the limits and lies in the world
abbrev pub IsGood : Line → Type 0
IsGood (line.One c) = (in_range c ≡ true) × (is_sound c ≡ true)
IsGood (line.Path n t) = (is_number n ≡ true) × (trail_in_range t ≡ true) × (length (centres t) ≤ 4096) × (list_all (λ a. lies_in a world) (squares t) ≡ true)
IsGood l = Unit {0}

-- the commands that it stands for
abbrev pub commands_of : Line → List Command
commands_of (line.One c) = c ∷ []
commands_of (line.Path n t) = adding n (jobs t)
commands_of l = []

-- what is wrong with it after those commands
abbrev pub fault_of : List Command → Line → Option Cause
fault_of fed line.Blank = None
fault_of fed (line.One c) = option_map cause_of (misfit_of (entries fed) c)
fault_of fed (line.Path n t) = option_map cause_of (jobs_misfit (entries fed) n (length (jobs t)))
fault_of fed (line.Wrong c) = Some c

-- the commands of a text's first line, as a script has them: one, those of a path, or none of a blank line or a remark
abbrev pub said : List ℕ → List Command
said bytes = if is_command (first_fields bytes) then commands_in (first_fields bytes) else []

-- what is wrong with a text's first line behind that canvas and those commands, as with a script's
abbrev pub line_fault : Canvas → List Command → List ℕ → Option Cause
line_fault canvas fed bytes = if is_command (first_fields bytes) then cause_by (Some canvas) 0 fed (first_fields bytes) else None
