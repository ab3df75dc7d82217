-- What each line of a trace says by itself.
use Rattle.std.specs.Prelude.{ℕ, codes, if◌then◌else◌, Option, Some, None, List, [], ◌∷◌, Result, Ok, Err}
use Rattle.std.specs.Str.{bytes_eq}
use Rattle.geom_core.specs.Areas.{Area, lies_in, world}
use Rattle.doc_model.specs.declared.canvas.Canvas.{Canvas}
use Rattle.doc_model.specs.declared.canvas.Walk.{Walk}
use Rattle.doc_model.specs.declared.canvas.Walk.TheVariants as walk
use Rattle.doc_model.specs.declared.command.Command.{Command}
use Rattle.doc_model.specs.Updates.{patch}
use Rattle.script_lines.specs.declared.cause.Cause.{Cause}
use Rattle.script_lines.specs.declared.cause.Cause.TheVariants.{UnknownWord, FieldCount, TooManyDabs, OutOfWorld}
use Rattle.script_lines.specs.Values.{◌>>=◌, natural}
use Rattle.script_forms.specs.declared.words.Word.{Word}
use Rattle.script_forms.specs.Forms.{word_of, canvas_text, command_of, canvas}
use Rattle.script_forms.specs.Jobs.{Fields, outline, area_of, cell_at}
use Rattle.trace_lines.specs.declared.line.Line.{Line}
use Rattle.trace_lines.specs.declared.line.Line.TheVariants.{Feed, Outside, Step, Start, Publish, End, Walk as WalkLine, Put}

-- a slot's place, from 0 on
abbrev pub place : List ℕ → Result ℕ Cause
place = natural 0 16

-- what a command's line says behind feed; its job may be too long or leave the world
abbrev pub fed_line : Result Command Cause → Result Line Cause
fed_line (Ok c) = Ok (Feed c)
fed_line (Err TooManyDabs) = Ok Outside
fed_line (Err OutOfWorld) = Ok Outside
fed_line (Err c) = Err c

abbrev pub command_line : Option Word → Fields → Result Line Cause
command_line None others = Err UnknownWord
command_line (Some word) others = fed_line (command_of word others)

-- a command behind feed: no canvas, and no path, of which each job has a line of its own
unfoldable pub feed : Fields → Result Line Cause
feed [] = Err FieldCount
feed (word ∷ others) = command_line (word_of word) others

abbrev pub step : Fields → Result Line Cause
step [] = Ok Step
step (field ∷ others) = Err FieldCount

unfoldable pub start : Fields → Result Line Cause
start (at ∷ []) = do
  p ← place at
  Ok (Start p)
start _ = Err FieldCount

unfoldable pub publish_at : List ℕ → List ℕ → List ℕ → Result Line Cause
publish_at at col row = do
  p ← place at
  k ← cell_at col row
  Ok (Publish p k)

unfoldable pub publish : Fields → Result Line Cause
publish (at ∷ col ∷ row ∷ []) = publish_at at col row
publish _ = Err FieldCount

unfoldable pub end : Fields → Result Line Cause
end (at ∷ []) = do
  p ← place at
  Ok (End p)
end _ = Err FieldCount

-- the word that stands there
abbrev pub word : List ℕ → List ℕ → Result (Unit {0}) Cause
word text field = if bytes_eq field text then Ok tt else Err UnknownWord

-- the walk of a patch, which may leave the world
abbrev pub walk_of : ℕ → Walk → Area → Line
walk_of p w rect = if lies_in rect world then WalkLine p (patch w rect) else Outside

unfoldable pub walk_up : List ℕ → List ℕ → List ℕ → List ℕ → List ℕ → List ℕ → List ℕ → Result Line Cause
walk_up at mode group left top width height = do
  p ← place at
  t ← word (codes "up") mode
  g ← natural 0 65535 group
  o ← outline left top width height
  Ok (walk_of p (walk.Up g) (area_of o))

unfoldable pub walk_all : List ℕ → List ℕ → List ℕ → List ℕ → List ℕ → List ℕ → Result Line Cause
walk_all at mode left top width height = do
  p ← place at
  t ← word (codes "all") mode
  o ← outline left top width height
  Ok (walk_of p walk.All (area_of o))

unfoldable pub walks : Fields → Result Line Cause
walks (at ∷ mode ∷ group ∷ left ∷ top ∷ width ∷ height ∷ []) = walk_up at mode group left top width height
walks (at ∷ mode ∷ left ∷ top ∷ width ∷ height ∷ []) = walk_all at mode left top width height
walks _ = Err FieldCount

unfoldable pub put_at : List ℕ → List ℕ → List ℕ → List ℕ → Result Line Cause
put_at at group col row = do
  p ← place at
  g ← natural 0 65535 group
  k ← cell_at col row
  Ok (Put p g k)

unfoldable pub put : Fields → Result Line Cause
put (at ∷ group ∷ col ∷ row ∷ []) = put_at at group col row
put _ = Err FieldCount

-- what a line says behind its word
abbrev pub line_by : List ℕ → Fields → Result Line Cause
line_by name others =
    if bytes_eq name (codes "feed") then feed others
    else if bytes_eq name (codes "step") then step others
    else if bytes_eq name (codes "start") then start others
    else if bytes_eq name (codes "publish") then publish others
    else if bytes_eq name (codes "end") then end others
    else if bytes_eq name (codes "walk") then walks others
    else if bytes_eq name (codes "put") then put others
    else Err UnknownWord

-- what a line says; a blank line and a comment are of no form
unfoldable pub line_of : Fields → Result Line Cause
line_of [] = Err UnknownWord
line_of (name ∷ others) = line_by name others

-- the number of slots
unfoldable pub slots : Fields → Result ℕ Cause
slots (name ∷ number ∷ []) = do
  t ← word (codes "trace") name
  natural 1 17 number
slots _ = Err FieldCount

-- the canvas
unfoldable pub canvas_line : Fields → Result Canvas Cause
canvas_line [] = Err UnknownWord
canvas_line (name ∷ others) = do
  t ← word canvas_text name
  canvas others
