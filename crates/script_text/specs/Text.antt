-- The canonical text of a script: one command a line, with single spaces.
use Rattle.std.specs.Prelude.{ℕ, ◌/◌, ◌%◌, Bool, true, false, if◌then◌else◌, List, [], ◌∷◌, ◌++◌}
use Rattle.std.specs.List.{flat_map}
use Rattle.std.specs.Fmt.{decimal, signed_decimal}
use Rattle.std.specs.Char.{digit_char}
use Rattle.geom_core.specs.Areas.{Point, Area}
use Rattle.doc_model.specs.Trails.{Trail}
use Rattle.pixel_core.specs.Rgba.{Rgba, clear, same_pixel}
use Rattle.pixel_core.specs.declared.blending.Op.{Op}
use Rattle.doc_model.specs.declared.canvas.Canvas.{Canvas}
use Rattle.doc_model.specs.declared.job.Job.{Job}
use Rattle.doc_model.specs.declared.job.Job.TheVariants as job
use Rattle.doc_model.specs.declared.tree.Change.{Change}
use Rattle.doc_model.specs.declared.tree.Change.TheVariants as change
use Rattle.doc_model.specs.declared.command.Command.{Command}
use Rattle.doc_model.specs.declared.command.Command.TheVariants as command
use Rattle.script_forms.specs.declared.words.JobWord.TheVariants.{Fill, Dab, Move, Blur, Track}
use Rattle.script_forms.specs.declared.words.Word.TheVariants as word
use Rattle.script_forms.specs.Forms.{canvas_text}
use Rattle.script_forms.specs.Texts.{word_text, work_text, kind_text, op_text, edge_text, seen_text, exclusive_text}
use Rattle.script_text.specs.Script.{Contents}

-- a byte as two hexadecimal digits
abbrev pub hex_text : ℕ → List ℕ
hex_text n = digit_char (n / 16) ∷ digit_char (n % 16) ∷ []

abbrev pub rgb_text : Rgba → List ℕ
rgb_text p = hex_text p.r ++ hex_text p.g ++ hex_text p.b

abbrev pub rgba_text : Rgba → List ℕ
rgba_text p = hex_text p.r ++ hex_text p.g ++ hex_text p.b ++ hex_text p.a

-- the fields behind the command word of a canvas
abbrev pub canvas_fields : Canvas → List (List ℕ)
canvas_fields c = decimal c.w ∷ decimal c.h ∷ rgb_text c.paper ∷ []

-- a layer's default pixel, where it isn't clear
abbrev pub ground_fields : Rgba → List (List ℕ)
ground_fields p = if same_pixel p clear then [] else rgba_text p ∷ []

abbrev pub spot_fields : ℕ → ℕ → ℕ → List (List ℕ)
spot_fields id parent place = decimal id ∷ decimal parent ∷ decimal place ∷ []

abbrev pub area_fields : Area → List (List ℕ)
area_fields a = signed_decimal a.x ∷ signed_decimal a.y ∷ decimal a.w ∷ decimal a.h ∷ []

abbrev pub ink_fields : Rgba → Op → ℕ → List (List ℕ)
ink_fields colour op strength = rgba_text colour ∷ op_text op ∷ decimal strength ∷ []

-- the points of a polyline, each by two fields
abbrev pub points_fields : List Point → List (List ℕ)
points_fields ps = flat_map (λ p. signed_decimal p.x ∷ signed_decimal p.y ∷ []) ps

-- the fields of a track, from its radius on
abbrev pub trail_fields : Trail → List (List ℕ)
trail_fields t = (decimal t.stamp.r ∷ edge_text t.stamp.soft ∷ []) ++ ink_fields t.stamp.colour t.stamp.op t.stamp.strength ++ decimal t.gap ∷ points_fields t.points

-- the fields of a job behind its stroke and its kind
abbrev pub job_text_fields : Job → List (List ℕ)
job_text_fields (job.Fill a colour op strength) = area_fields a ++ ink_fields colour op strength
job_text_fields (job.Dab x y r soft colour op strength) = (signed_decimal x ∷ signed_decimal y ∷ decimal r ∷ edge_text soft ∷ []) ++ ink_fields colour op strength
job_text_fields (job.Move a dx dy) = area_fields a ++ signed_decimal dx ∷ signed_decimal dy ∷ []
job_text_fields (job.Blur a r) = area_fields a ++ decimal r ∷ []
job_text_fields (job.Track t cell) = signed_decimal cell.col ∷ signed_decimal cell.row ∷ trail_fields t

abbrev pub job_word : Job → List ℕ
job_word (job.Fill a colour op strength) = work_text Fill
job_word (job.Dab x y r soft colour op strength) = work_text Dab
job_word (job.Move a dx dy) = work_text Move
job_word (job.Blur a r) = work_text Blur
job_word (job.Track t cell) = work_text Track

-- the mark of an exclusive stroke
abbrev pub mark_fields : Bool → List (List ℕ)
mark_fields false = []
mark_fields true = exclusive_text ∷ []

-- the fields of a line, one after another, each behind a space
abbrev pub spaced : List (List ℕ) → List ℕ
spaced fields = flat_map (λ f. 32 ∷ f) fields

-- a line of a command word and fields
abbrev pub line : List ℕ → List (List ℕ) → List ℕ
line first fields = first ++ (spaced fields ++ 10 ∷ [])

abbrev pub change_text : Change → List ℕ
change_text (change.Layer id parent place p) = line (word_text word.Layer) (spot_fields id parent place ++ ground_fields p)
change_text (change.Group id parent place) = line (word_text word.Group) (spot_fields id parent place)
change_text (change.Remove id) = line (word_text word.Remove) (decimal id ∷ [])
change_text (change.Place id parent place) = line (word_text word.Place) (spot_fields id parent place)
change_text (change.Look id look) = line (word_text word.Look) (decimal id ∷ decimal look.opacity ∷ op_text look.op ∷ seen_text look.visible ∷ [])

abbrev pub command_text : Command → List ℕ
command_text (command.Change change) = change_text change
command_text (command.Stroke n layer exclusive) = line (word_text word.Stroke) (decimal n ∷ decimal layer ∷ mark_fields exclusive)
command_text (command.Add n kind job) = line (job_word job) (decimal n ∷ kind_text kind ∷ job_text_fields job)
command_text (command.End n) = line (word_text word.End) (decimal n ∷ [])
command_text (command.Cancel n) = line (word_text word.Cancel) (decimal n ∷ [])
command_text command.Undo = line (word_text word.Undo) []
command_text command.Redo = line (word_text word.Redo) []
command_text (command.Purge keep) = line (word_text word.Purge) (decimal keep ∷ [])
command_text command.Export = line (word_text word.Export) []

abbrev pub canvas_line : Canvas → List ℕ
canvas_line c = line canvas_text (canvas_fields c)

-- the canonical text of a script
unfoldable pub text : Contents → List ℕ
text s = canvas_line s.canvas ++ flat_map command_text s.commands
