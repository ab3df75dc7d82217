-- Why a command may not follow others, its job's own limits aside.
use Rattle.std.specs.Prelude.{ℕ, ◌+◌, ◌==◌, nat_le, nat_lt, Bool, false, ◌&&◌, if◌then◌else◌, Option, Some, None, List, length, filter}
use Rattle.std.specs.List.{list_any}
use Rattle.std.specs.Option.{option_or}
use Rattle.doc_model.specs.declared.command.Command.{Command}
use Rattle.doc_model.specs.declared.command.Command.TheVariants as command
use Rattle.doc_model.specs.Strokes.{Entry, Strokes, is_open_stroke, is_stroke, has_room, is_export}
use Rattle.command_log.specs.declared.refusal.Misfit.{Misfit}
use Rattle.command_log.specs.declared.refusal.Misfit.TheVariants.{UsedAgain, UnknownStroke, ClosedStroke, TooManyJobs, TooManyExports}

-- why no stroke with that number takes jobs or is closed
abbrev pub not_open : ℕ → List Entry → Option Misfit
not_open n es = if list_any (is_open_stroke n) es then None else if list_any (is_stroke n) es then Some ClosedStroke else Some UnknownStroke

-- whether the entry is the stroke with that number, with room for k jobs more
abbrev pub has_room_for : ℕ → ℕ → Entry → Bool
has_room_for k n (Strokes s) = (s.no == n) && nat_le (length s.jobs + k) 4096
has_room_for k n e = false

-- why so many jobs can't be added to that stroke
abbrev pub jobs_misfit : List Entry → ℕ → ℕ → Option Misfit
jobs_misfit es n k = option_or (not_open n es) (if list_any (has_room_for k n) es then None else Some TooManyJobs)

-- why the command can't follow those that made these entries
unfoldable pub misfit_of : List Entry → Command → Option Misfit
misfit_of es (command.Stroke n layer exclusive) = if list_any (is_stroke n) es then Some UsedAgain else None
misfit_of es (command.Add n kind job) = option_or (not_open n es) (if list_any (has_room n) es then None else Some TooManyJobs)
misfit_of es (command.End n) = not_open n es
misfit_of es (command.Cancel n) = not_open n es
misfit_of es command.Export = if nat_lt (length (filter is_export es)) 64 then None else Some TooManyExports
misfit_of es c = None
