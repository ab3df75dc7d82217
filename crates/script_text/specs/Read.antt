-- How one line changes what was read.
use Rattle.std.specs.Prelude.{◌≡◌, ℕ, ◌+◌, length, true, List, ◌++◌, map, Option, Some, None, Result, Ok, Err, IfSome}
use Rattle.std.specs.Option.{option_to_list, option_map, option_and_then}
use Rattle.std.specs.Result.{result_ok}
use Rattle.std.specs.List.{filter_map}
use Rattle.doc_model.specs.declared.command.Command.TheVariants as command
use Rattle.doc_model.specs.declared.canvas.Canvas.{Canvas}
use Rattle.doc_model.specs.declared.command.Command.{Command}
use Rattle.script_lines.specs.declared.cause.Cause.{Cause}
use Rattle.script_text.specs.declared.script.ScriptFault.{ScriptFault}
use Rattle.script_text.specs.declared.script.ReadRefusal.{ReadRefusal}
use Rattle.script_text.specs.declared.script.ReadRefusal.TheVariants.{Fault, NoMemory}
use Rattle.script_text.specs.declared.reading.Reading.{Reading}
use Rattle.script_text.specs.declared.reading.Start.{Start}
use Rattle.script_text.specs.Script.{Contents, contents}
use Rattle.script_forms.specs.Ranges.{in_limits}
use Rattle.script_forms.specs.Jobs.{Fields}
use Rattle.doc_model.specs.Trails.{Trail}
use Rattle.script_forms.specs.declared.words.Word.{Word}
use Rattle.script_forms.specs.Forms.{command_of}
use Rattle.script_text.specs.Paths.{path_commands, path_jobs, cells_in}
use Rattle.script_text.specs.Reading.{canvas_in, command_in, commands_in, start_by, canvas_of, commands_of, starts_of, end_by}
use Rattle.std.specs.Option.{option_or}

abbrev pub refusal : ℕ → Cause → ReadRefusal
refusal line cause = Fault (record { line = line; cause = cause })

-- a line is refused for its cause, or for want of memory
abbrev pub IsRefused : {A : Type 0} → Result A ReadRefusal → ℕ → Option Cause → Type 0
IsRefused (Ok x) line cause = cause ≡ None
IsRefused (Err (Fault f)) line cause = (f.line ≡ line) × (cause ≡ Some f.cause)
IsRefused (Err NoMemory) line cause = Unit {0}

-- a command more, or none
pub record TakesCommand (old new : Reading) (line : ℕ) (command : Option Command) : Type 0 where
  pub canvas : new.canvas ≡ old.canvas
  pub draft : new.draft ≡ old.draft ++ option_to_list command
  pub starts : new.starts.items ≡ old.starts.items ++ option_to_list (start_by line command)
  pub cells : new.cells ≡ old.cells

-- the jobs of a path more, or none
pub record TakesPath (old new : Reading) (told : Option (ℕ × Trail)) : Type 0 where
  pub canvas : new.canvas ≡ old.canvas
  pub draft : new.draft ≡ old.draft ++ path_commands told
  pub starts : new.starts.items ≡ old.starts.items
  pub cells : new.cells ≡ old.cells + length (path_jobs told)

-- what a line says is added
pub record Takes (old new : Reading) (line : ℕ) (fields : Fields) : Type 0 where
  pub canvas : new.canvas ≡ option_or old.canvas (canvas_in fields)
  pub draft : new.draft ≡ old.draft ++ commands_in fields
  pub starts : new.starts.items ≡ old.starts.items ++ option_to_list (start_by line (command_in fields))
  pub cells : new.cells ≡ old.cells + cells_in fields

-- the answer to bytes with that fault, or none, and what they say then
abbrev pub Answers : Result Contents ReadRefusal → Option ScriptFault → Option Contents → Type 0
Answers (Ok s) fault told = (fault ≡ None) × (told ≡ Some s)
Answers (Err (Fault f)) fault told = fault ≡ Some f
Answers (Err NoMemory) fault told = Unit {0}

-- the canvas, if there is one, is within the limits
abbrev pub Fits : Option Canvas → Type 0
Fits canvas = IfSome canvas (λ c. in_limits c ≡ true)

-- the number of a stroke that a command starts
abbrev pub started_by : Command → Option ℕ
started_by (command.Stroke n layer exclusive) = Some n
started_by c = None

-- the starts are those of the commands
abbrev pub StartsAre : List Start → List Command → Type 0
StartsAre starts commands = map (λ s. s.no) starts ≡ filter_map started_by commands

-- that canvas and those commands were read
pub record IsGathered (r : Reading) (c : Canvas) (commands : List Command) : Type 0 where
  pub canvas : r.canvas ≡ Some c
  pub draft : r.draft ≡ commands
  pub starts : StartsAre r.starts.items commands

-- the command of a word and its fields
abbrev pub command_by : Option Word → Fields → Option Command
command_by word others = option_and_then (λ w. result_ok (command_of w others)) word

-- what is wrong where no line is, after these
abbrev pub end_fault : List (ℕ × Fields) → Option ScriptFault
end_fault before = end_by (canvas_of before) (commands_of before) (starts_of before)

-- what good lines say
abbrev pub contents_by : Option Canvas → List Command → Option Contents
contents_by canvas commands = option_map (λ c. contents c commands) canvas
