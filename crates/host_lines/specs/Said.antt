-- What the fields of a line say by themselves.
use Rattle.std.specs.Prelude.{ℕ, if◌then◌else◌, Option, Some, None, Result, Ok, Err, List, [], ◌∷◌}
use Rattle.std.specs.Str.{bytes_eq}
use Rattle.doc_model.specs.declared.command.Command.{Command}
use Rattle.doc_model.specs.Trails.{Trail}
use Rattle.script_lines.specs.declared.cause.Cause.{Cause}
use Rattle.script_lines.specs.declared.cause.Cause.TheVariants.{CanvasAgain, UnknownWord}
use Rattle.script_forms.specs.declared.words.Word.{Word}
use Rattle.script_forms.specs.Forms.{canvas_text, path_text, word_of, command_of}
use Rattle.script_forms.specs.Jobs.{Fields, path}
use Rattle.host_lines.specs.declared.line.Line.{Line}
use Rattle.host_lines.specs.declared.line.Line.TheVariants as line

abbrev pub command_told : Result Command Cause → Line
command_told (Ok c) = line.One c
command_told (Err c) = line.Wrong c

abbrev pub track_told : Result (ℕ × Trail) Cause → Line
track_told (Ok p) = line.Path p.0 p.1
track_told (Err c) = line.Wrong c

-- a path, behind its word
abbrev pub path_told : Fields → Line
path_told others = track_told (path others)

-- another line, behind its word
abbrev pub word_told : Option Word → Fields → Line
word_told None others = line.Wrong UnknownWord
word_told (Some word) others = command_told (command_of word others)

-- a command
abbrev pub line_told : Fields → Line
line_told [] = line.Blank
line_told (word ∷ others) =
    if bytes_eq word canvas_text then line.Wrong CanvasAgain
    else if bytes_eq word path_text then path_told others
    else word_told (word_of word) others
