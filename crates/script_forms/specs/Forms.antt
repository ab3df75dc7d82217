-- The command words of lines, and what each line says by itself behind its word.
use Rattle.std.specs.Prelude.{ℕ, Bool, true, false, List, [], ◌∷◌, codes, Option, Result, Ok, Err}
use Rattle.std.specs.Map.{lookup}
use Rattle.std.specs.Str.{bytes_eq}
use Rattle.pixel_core.specs.Rgba.{clear, rgba as pixel}
use Rattle.doc_model.specs.declared.canvas.Canvas.{Canvas}
use Rattle.doc_model.specs.declared.tree.Change.TheVariants as change
use Rattle.doc_model.specs.declared.command.Command.{Command}
use Rattle.doc_model.specs.declared.command.Command.TheVariants as command
use Rattle.script_lines.specs.declared.cause.Cause.{Cause}
use Rattle.script_lines.specs.declared.cause.Cause.TheVariants.{FieldCount}
use Rattle.script_lines.specs.Values.{rgb, rgba, natural, ◌>>=◌}
use Rattle.script_forms.specs.declared.words.JobWord.TheVariants.{Fill, Dab, Move, Blur, Track}
use Rattle.script_forms.specs.declared.words.Word.{Word}
use Rattle.script_forms.specs.declared.words.Word.TheVariants.{Layer, Group, Remove, Place, Look, Stroke, Paint, End, Cancel, Undo, Redo, Purge, Export}
use Rattle.script_forms.specs.Jobs.{Fields, one_of, op_of, paint}

abbrev pub canvas_text : List ℕ
canvas_text = codes "canvas"

abbrev pub path_text : List ℕ
path_text = codes "path"

-- the command word of a line other than the canvas
unfoldable pub word_of : List ℕ → Option Word
word_of field = lookup (bytes_eq field) (
    (codes "layer", Layer) ∷ (codes "group", Group) ∷ (codes "remove", Remove) ∷ (codes "place", Place) ∷ (codes "look", Look)
    ∷ (codes "fill", Paint Fill) ∷ (codes "dab", Paint Dab) ∷ (codes "move", Paint Move) ∷ (codes "blur", Paint Blur)
    ∷ (codes "track", Paint Track)
    ∷ (codes "stroke", Stroke) ∷ (codes "end", End) ∷ (codes "cancel", Cancel)
    ∷ (codes "undo", Undo) ∷ (codes "redo", Redo) ∷ (codes "purge", Purge) ∷ (codes "export", Export) ∷ [])

-- whether a node is seen
unfoldable pub seen_of : List ℕ → Result Bool Cause
seen_of = one_of ((codes "on", true) ∷ (codes "off", false) ∷ [])

-- the mark of an exclusive stroke
unfoldable pub exclusive_of : List ℕ → Result Bool Cause
exclusive_of = one_of ((codes "exclusive", true) ∷ [])

-- a node's number
abbrev pub id_of : List ℕ → Result ℕ Cause
id_of = natural 1 65535

-- a stroke's number
abbrev pub stroke_number : List ℕ → Result ℕ Cause
stroke_number = natural 0 4294967295

unfoldable pub sides : List ℕ → List ℕ → Result (ℕ × ℕ) Cause
sides width height = do
  w ← natural 1 2048 width
  h ← natural 1 2048 height
  Ok (w, h)

-- the canvas, on white paper unless its colour is told
unfoldable pub canvas : Fields → Result Canvas Cause
canvas (width ∷ height ∷ []) = sides width height >>= λ s. Ok (record { w = s.0; h = s.1; paper = pixel 255 255 255 255 })
canvas (width ∷ height ∷ colour ∷ []) = sides width height >>= λ s. rgb colour >>= λ p. Ok (record { w = s.0; h = s.1; paper = p })
canvas _ = Err FieldCount

-- a node, the group above it, and its place there
unfoldable pub spot : List ℕ → List ℕ → List ℕ → Result (ℕ × ℕ × ℕ) Cause
spot id parent place = do
  i ← id_of id
  p ← natural 0 65535 parent
  k ← natural 0 255 place
  Ok (i, p, k)

-- a command about the number in a field
abbrev pub numbered : (ℕ → Command) → List ℕ → Result Command Cause
numbered make field = stroke_number field >>= λ n. Ok (make n)

-- the command of a line by its word and the fields behind it. A layer is clear unless its default pixel is told
unfoldable pub command_of : Word → Fields → Result Command Cause
command_of Layer (id ∷ parent ∷ place ∷ []) = spot id parent place >>= λ s. Ok (command.Change (change.Layer s.0 s.1 s.2 clear))
command_of Layer (id ∷ parent ∷ place ∷ colour ∷ []) =
    spot id parent place >>= λ s. rgba colour >>= λ p. Ok (command.Change (change.Layer s.0 s.1 s.2 p))
command_of Group (id ∷ parent ∷ place ∷ []) = spot id parent place >>= λ s. Ok (command.Change (change.Group s.0 s.1 s.2))
command_of Remove (id ∷ []) = id_of id >>= λ i. Ok (command.Change (change.Remove i))
command_of Place (id ∷ parent ∷ place ∷ []) = spot id parent place >>= λ s. Ok (command.Change (change.Place s.0 s.1 s.2))
command_of Look (id ∷ opacity ∷ operation ∷ seen ∷ []) = do
  i ← id_of id
  o ← natural 0 255 opacity
  op ← op_of operation
  visible ← seen_of seen
  Ok (command.Change (change.Look i (record { opacity = o; op = op; visible = visible })))
command_of Stroke (number ∷ on ∷ []) = stroke_number number >>= λ n. id_of on >>= λ l. Ok (command.Stroke n l false)
command_of Stroke (number ∷ on ∷ mark ∷ []) = do
  n ← stroke_number number
  l ← id_of on
  exclusive ← exclusive_of mark
  Ok (command.Stroke n l exclusive)
command_of (Paint work) fields = paint work fields
command_of End (number ∷ []) = numbered command.End number
command_of Cancel (number ∷ []) = numbered command.Cancel number
command_of Undo [] = Ok command.Undo
command_of Redo [] = Ok command.Redo
command_of Purge (number ∷ []) = numbered command.Purge number
command_of Export [] = Ok command.Export
command_of word fields = Err FieldCount
