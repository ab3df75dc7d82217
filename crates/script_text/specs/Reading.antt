-- What the bytes of a script say, or its first fault.
use Rattle.std.specs.Prelude.{ℕ, if◌then◌else◌, Option, Some, None, Result, Ok, Err, List, [], ◌∷◌, ◌++◌, filter, sum_by}
use Rattle.std.specs.List.{list_any, filter_map, flat_map, enumerate_from}
use Rattle.std.specs.Option.{is_some, option_or, option_map, option_and_then, option_to_list}
use Rattle.std.specs.Result.{result_ok, result_err}
use Rattle.std.specs.Str.{bytes_eq}
use Rattle.doc_model.specs.declared.canvas.Canvas.{Canvas}
use Rattle.doc_model.specs.declared.command.Command.{Command}
use Rattle.doc_model.specs.declared.command.Command.TheVariants as command
use Rattle.command_log.specs.declared.refusal.Misfit.{Misfit}
use Rattle.command_log.specs.declared.refusal.Misfit.TheVariants as misfits
use Rattle.command_log.specs.Misfits.{misfit_of}
use Rattle.doc_model.specs.Strokes.{Entry, is_open_stroke, entries}
use Rattle.doc_model.specs.Trails.{Trail}
use Rattle.script_lines.specs.declared.cause.Cause.{Cause}
use Rattle.script_lines.specs.declared.cause.Cause.TheVariants.{UnknownWord, UsedAgain, CanvasMissing, UnknownStroke, CanvasAgain, ClosedStroke, StrokeLeft, TooManyJobs, TooManyExports}
use Rattle.script_lines.specs.Lines.{lines, is_command}
use Rattle.script_forms.specs.declared.words.Word.{Word}
use Rattle.script_text.specs.declared.script.ScriptFault.{ScriptFault}
use Rattle.script_text.specs.declared.reading.Start.{Start}
use Rattle.script_text.specs.Script.{Contents, contents}
use Rattle.script_forms.specs.Forms.{word_of, canvas_text, path_text, canvas, command_of}
use Rattle.script_forms.specs.Jobs.{Fields, path}
use Rattle.script_text.specs.Paths.{path_in, path_commands, path_misfit, cells_in}

-- the lines of a text that are commands, numbered as they stand in it, from 1 on
abbrev pub command_lines : List ℕ → List (ℕ × Fields)
command_lines bytes = filter (λ l. is_command l.1) (enumerate_from 1 (lines bytes))

-- the canvas that a line says
abbrev pub canvas_in : Fields → Option Canvas
canvas_in [] = None
canvas_in (word ∷ others) = if bytes_eq word canvas_text then result_ok (canvas others) else None

-- the command that a line says
abbrev pub command_in : Fields → Option Command
command_in [] = None
command_in (word ∷ rest) = if bytes_eq word canvas_text then None else option_and_then (λ w. result_ok (command_of w rest)) (word_of word)

-- the first canvas of some lines
abbrev pub canvas_of : List (ℕ × Fields) → Option Canvas
canvas_of [] = None
canvas_of (line ∷ others) = option_or (canvas_in line.1) (canvas_of others)

-- the commands that a line says: one, or those of a path
abbrev pub commands_in : Fields → List Command
commands_in fields = option_to_list (command_in fields) ++ path_commands (path_in fields)

-- the commands of some lines
abbrev pub commands_of : List (ℕ × Fields) → List Command
commands_of before = flat_map (λ l. commands_in l.1) before

-- how many tiles the paths of some lines meet, each path by itself
abbrev pub cells_of : List (ℕ × Fields) → ℕ
cells_of before = sum_by (λ l. cells_in l.1) before

-- what is wrong with a line whose command may not follow
abbrev pub cause_of : Misfit → Cause
cause_of misfits.UsedAgain = UsedAgain
cause_of misfits.UnknownStroke = UnknownStroke
cause_of misfits.ClosedStroke = ClosedStroke
cause_of misfits.TooManyJobs = TooManyJobs
cause_of misfits.TooManyExports = TooManyExports

-- why the command can't follow those that made these entries
unfoldable pub misfit : List Entry → Command → Option Cause
misfit es c = option_map cause_of (misfit_of es c)

-- what is wrong with a canvas line, where there was that canvas or none
abbrev pub canvas_cause : Option Canvas → Fields → Option Cause
canvas_cause before others = if is_some before then Some CanvasAgain else result_err (canvas others)

-- what is wrong with what a line says, by itself or after those commands
abbrev pub command_cause : List Command → Result Command Cause → Option Cause
command_cause commands (Err c) = Some c
command_cause commands (Ok c) = misfit (entries commands) c

-- what is wrong with a line of a word other than the canvas
abbrev pub word_cause : Option Canvas → List Command → Option Word → Fields → Option Cause
word_cause before commands None others = Some UnknownWord
word_cause None commands (Some word) others = Some CanvasMissing
word_cause (Some c) commands (Some word) others = command_cause commands (command_of word others)

-- what is wrong with what a path says, by itself or after those commands and paths that meet so many tiles
abbrev pub track_cause : ℕ → List Command → Result (ℕ × Trail) Cause → Option Cause
track_cause cells commands (Err c) = Some c
track_cause cells commands (Ok p) = option_map cause_of (path_misfit (entries commands) cells p.0 p.1)

-- what is wrong with a path, behind its word
abbrev pub path_cause : Option Canvas → ℕ → List Command → Fields → Option Cause
path_cause None cells commands others = Some CanvasMissing
path_cause (Some c) cells commands others = track_cause cells commands (path others)

-- what is wrong with a line after that canvas, paths that meet so many tiles, and those commands
unfoldable pub cause_by : Option Canvas → ℕ → List Command → Fields → Option Cause
cause_by before cells commands [] = None
cause_by before cells commands (word ∷ others) =
    if bytes_eq word canvas_text then canvas_cause before others
    else if bytes_eq word path_text then path_cause before cells commands others
    else word_cause before commands (word_of word) others

-- the first cause of a command line after the lines before it
abbrev pub cause : List (ℕ × Fields) → Fields → Option Cause
cause before fields = cause_by (canvas_of before) (cells_of before) (commands_of before) fields

-- where a command starts a stroke
abbrev pub start_by : ℕ → Option Command → Option Start
start_by n (Some (command.Stroke number layer exclusive)) = Some (record { line = n; no = number })
start_by n c = None

-- the strokes in the order of their start
abbrev pub starts_of : List (ℕ × Fields) → List Start
starts_of before = filter_map (λ l. start_by l.0 (command_in l.1)) before

-- the line of the first stroke that is still open among the entries
abbrev pub left_open : List Entry → List Start → Option ℕ
left_open es [] = None
left_open es (s ∷ others) = if list_any (is_open_stroke s.no) es then Some s.line else left_open es others

-- what is wrong where no line is
abbrev pub end_by : Option Canvas → List Command → List Start → Option ScriptFault
end_by None commands starts = Some (record { line = 1; cause = CanvasMissing })
end_by (Some c) commands starts = option_map (λ n. record { line = n; cause = StrokeLeft }) (left_open (entries commands) starts)

-- the first fault of lines after others that are good
unfoldable pub fault_after : List (ℕ × Fields) → List (ℕ × Fields) → Option ScriptFault
fault_after before [] = end_by (canvas_of before) (commands_of before) (starts_of before)
fault_after before (line ∷ others) = option_or (option_map (λ c. record { line = line.0; cause = c }) (cause before line.1))
    (fault_after (before ++ line ∷ []) others)

-- the first fault of a script
unfoldable pub fault : List ℕ → Option ScriptFault
fault bytes = fault_after [] (command_lines bytes)

-- the canvas and the commands of a script without a fault
unfoldable pub script : List ℕ → Option Contents
script bytes = if is_some (fault bytes) then None
    else option_map (λ c. contents c (commands_of (command_lines bytes))) (canvas_of (command_lines bytes))
