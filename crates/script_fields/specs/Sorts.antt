-- What may stand in the fields of a line, behind its command word.
use Rattle.std.specs.Prelude.{ℕ, pos, negsuc, List, [], ◌∷◌, Option}
use Rattle.std.specs.Result.{result_err}
use Rattle.script_lines.specs.declared.cause.Cause.{Cause}
use Rattle.script_lines.specs.Values.{natural, number_in, rgb, rgba}
use Rattle.script_forms.specs.declared.words.JobWord.{JobWord}
use Rattle.script_forms.specs.declared.words.Word.{Word}
use Rattle.script_forms.specs.declared.words.JobWord.TheVariants as job
use Rattle.script_forms.specs.declared.words.Word.TheVariants as word
use Rattle.script_forms.specs.Forms.{exclusive_of, seen_of}
use Rattle.script_forms.specs.Jobs.{edge_of, kind_of, op_of}
use Rattle.script_fields.specs.declared.sort.Sort.{Sort}
use Rattle.script_fields.specs.declared.sort.Sort.TheVariants as sort
use Rattle.script_fields.specs.declared.form.Form.{Form}
use Rattle.script_fields.specs.declared.form.Form.TheVariants as form

-- why a field isn't of a sort, if it isn't
abbrev pub fault_of : Sort → List ℕ → Option Cause
fault_of (sort.Natural low high) field = result_err (natural low high field)
fault_of (sort.Signed low high) field = result_err (number_in low high field)
fault_of sort.Rgb field = result_err (rgb field)
fault_of sort.Rgba field = result_err (rgba field)
fault_of sort.Kind field = result_err (kind_of field)
fault_of sort.Op field = result_err (op_of field)
fault_of sort.Edge field = result_err (edge_of field)
fault_of sort.Seen field = result_err (seen_of field)
fault_of sort.Exclusive field = result_err (exclusive_of field)

-- a column or a row
abbrev pub coordinate : Sort
coordinate = sort.Signed (negsuc 32767) (pos 32767)

-- a stroke's number
abbrev pub stroke : Sort
stroke = sort.Natural 0 4294967295

-- a node, the group above it, and its place there
abbrev pub spot : List Sort
spot = sort.Natural 1 65535 ∷ sort.Natural 0 65535 ∷ sort.Natural 0 255 ∷ []

-- the dabs of a track or a path, before its points
abbrev pub trail : List Sort
trail = sort.Natural 0 128 ∷ sort.Edge ∷ sort.Rgba ∷ sort.Op ∷ sort.Natural 0 255 ∷ sort.Natural 1 255 ∷ []

-- what stands in the fields of a line that adds a job, behind its stroke and its kind
abbrev pub job_sorts : JobWord → List Sort
job_sorts job.Fill = coordinate ∷ coordinate ∷ sort.Natural 1 4096 ∷ sort.Natural 1 4096 ∷ sort.Rgba ∷ sort.Op ∷ sort.Natural 0 255 ∷ []
job_sorts job.Dab = coordinate ∷ coordinate ∷ sort.Natural 0 128 ∷ sort.Edge ∷ sort.Rgba ∷ sort.Op ∷ sort.Natural 0 255 ∷ []
job_sorts job.Move = coordinate ∷ coordinate ∷ sort.Natural 1 4096 ∷ sort.Natural 1 4096 ∷ sort.Signed (negsuc 32766) (pos 32767) ∷ sort.Signed (negsuc 32766) (pos 32767) ∷ []
job_sorts job.Blur = coordinate ∷ coordinate ∷ sort.Natural 1 4096 ∷ sort.Natural 1 4096 ∷ sort.Natural 1 16 ∷ []
job_sorts job.Track = sort.Signed (negsuc 255) (pos 255) ∷ sort.Signed (negsuc 255) (pos 255) ∷ trail

-- what stands in the fields of a command's line, behind its word. Behind the last of these stand coordinates
abbrev pub command_sorts : Word → List Sort
command_sorts word.Layer = sort.Natural 1 65535 ∷ sort.Natural 0 65535 ∷ sort.Natural 0 255 ∷ sort.Rgba ∷ []
command_sorts word.Group = spot
command_sorts word.Remove = sort.Natural 1 65535 ∷ []
command_sorts word.Place = spot
command_sorts word.Look = sort.Natural 1 65535 ∷ sort.Natural 0 255 ∷ sort.Op ∷ sort.Seen ∷ []
command_sorts word.Stroke = stroke ∷ sort.Natural 1 65535 ∷ sort.Exclusive ∷ []
command_sorts (word.Paint work) = stroke ∷ sort.Kind ∷ job_sorts work
command_sorts word.End = stroke ∷ []
command_sorts word.Cancel = stroke ∷ []
command_sorts word.Undo = []
command_sorts word.Redo = []
command_sorts word.Purge = stroke ∷ []
command_sorts word.Export = []

-- the same of any line
abbrev pub sorts : Form → List Sort
sorts form.Canvas = sort.Natural 1 2048 ∷ sort.Natural 1 2048 ∷ sort.Rgb ∷ []
sorts form.Path = stroke ∷ trail
sorts (form.Command w) = command_sorts w
