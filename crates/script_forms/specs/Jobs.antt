-- The lines that add a job to a stroke, behind their command word, and the words that stand in them.
use Rattle.std.specs.Prelude.{ℕ, ◌-◌, ◌%◌, nat_le, ℤ, pos, negsuc, Bool, true, false, ◌&&◌, ◌==◌, List, [], ◌∷◌, length, codes, Result, Ok, Err, if◌then◌else◌}
use Rattle.std.specs.List.{list_all}
use Rattle.std.specs.Option.{ok_or}
use Rattle.std.specs.Map.{lookup}
use Rattle.std.specs.Str.{bytes_eq}
use Rattle.pixel_core.specs.declared.blending.Op.{Op}
use Rattle.pixel_core.specs.declared.blending.Op.TheVariants.{Over, Erase, Multiply, Screen, Addition}
use Rattle.geom_core.specs.Areas.{Area, area, lies_in, Point, point, world}
use Rattle.geom_core.specs.Grid.{Key, key}
use Rattle.doc_model.specs.declared.track.Stamp.{Stamp}
use Rattle.doc_model.specs.Trails.{Trail, trail, centres}
use Rattle.doc_model.specs.declared.job.Kind.{Kind}
use Rattle.doc_model.specs.declared.job.Kind.TheVariants.{Con, Seq, Bar, Uni}
use Rattle.doc_model.specs.declared.job.Job.{Job}
use Rattle.doc_model.specs.declared.job.Job.TheVariants as job
use Rattle.doc_model.specs.declared.command.Command.{Command}
use Rattle.doc_model.specs.declared.command.Command.TheVariants.{Add}
use Rattle.script_lines.specs.declared.cause.Cause.{Cause}
use Rattle.script_lines.specs.declared.cause.Cause.TheVariants.{FieldCount, OutOfWorld, TooManyDabs, UnknownWord}
use Rattle.script_forms.specs.declared.words.JobWord.{JobWord}
use Rattle.script_forms.specs.declared.words.JobWord.TheVariants.{Fill, Dab, Move, Blur, Track}
use Rattle.script_forms.specs.declared.jobs.Outline.{Outline}
use Rattle.script_forms.specs.declared.jobs.Ink.{Ink}
use Rattle.script_forms.specs.declared.jobs.Tip.{Tip}
use Rattle.doc_model.specs.Jobs.{checks, squares}
use Rattle.script_lines.specs.Values.{natural, rgba, ◌>>=◌, number_in}

-- the fields of a line behind its command word
abbrev pub Fields : Type 0
Fields = List (List ℕ)

-- what a field says that has to be one of these texts
abbrev pub one_of : {A : Type 0} → List (List ℕ × A) → List ℕ → Result A Cause
one_of table field = ok_or (lookup (bytes_eq field) table) UnknownWord

unfoldable pub kind_of : List ℕ → Result Kind Cause
kind_of = one_of ((codes "con", Con) ∷ (codes "seq", Seq) ∷ (codes "bar", Bar) ∷ (codes "uni", Uni) ∷ [])

unfoldable pub op_of : List ℕ → Result Op Cause
op_of = one_of ((codes "over", Over) ∷ (codes "erase", Erase) ∷ (codes "multiply", Multiply)
    ∷ (codes "screen", Screen) ∷ (codes "addition", Addition) ∷ [])

-- whether an edge is soft
unfoldable pub edge_of : List ℕ → Result Bool Cause
edge_of = one_of ((codes "hard", false) ∷ (codes "soft", true) ∷ [])

-- a column or a row
abbrev pub coordinate : List ℕ → Result ℤ Cause
coordinate = number_in (negsuc 32767) (pos 32767)

-- how far a move goes, by columns or rows
abbrev pub distance : List ℕ → Result ℤ Cause
distance = number_in (negsuc 32766) (pos 32767)

-- a rectangle, in the world or not
unfoldable pub outline : List ℕ → List ℕ → List ℕ → List ℕ → Result Outline Cause
outline left top width height = do
  x ← coordinate left
  y ← coordinate top
  w ← natural 1 4096 width
  h ← natural 1 4096 height
  Ok (record { x = x; y = y; w = w; h = h })

abbrev pub area_of : Outline → Area
area_of o = area o.x o.y o.w o.h

-- a colour, and how it is laid on
unfoldable pub ink : List ℕ → List ℕ → List ℕ → Result Ink Cause
ink colour operation strength = do
  pixel ← rgba colour
  op ← op_of operation
  m ← natural 0 255 strength
  Ok (record { colour = pixel; op = op; strength = m })

-- the centre and the radius of a dab, and whether its edge is soft
unfoldable pub tip : List ℕ → List ℕ → List ℕ → List ℕ → Result Tip Cause
tip left top radius edge = do
  x ← coordinate left
  y ← coordinate top
  r ← natural 0 128 radius
  soft ← edge_of edge
  Ok (record { x = x; y = y; r = r; soft = soft })

-- a job, unless it leaves the world
abbrev pub checked : Job → Result Job Cause
checked j = if checks j then Ok j else Err OutOfWorld

-- what each dab of a track paints
unfoldable pub stamp : List ℕ → List ℕ → List ℕ → List ℕ → List ℕ → Result Stamp Cause
stamp radius edge colour operation strength = do
  r ← natural 0 128 radius
  soft ← edge_of edge
  i ← ink colour operation strength
  Ok (record { r = r; soft = soft; colour = i.colour; op = i.op; strength = i.strength })

unfoldable pub point_at : List ℕ → List ℕ → Result Point Cause
point_at left top = do
  x ← coordinate left
  y ← coordinate top
  Ok (point x y)

-- points, each by two fields
abbrev pub points_at : Fields → Result (List Point) Cause
points_at [] = Ok []
points_at (left ∷ []) = Err FieldCount
points_at (left ∷ top ∷ others) = point_at left top >>= λ p. points_at others >>= λ ps. Ok (p ∷ ps)

-- whether so many fields are those of 2 to 8 points
abbrev pub are_points : ℕ → Bool
are_points n = (nat_le 4 n && nat_le n 16) && (n % 2 == 0)

unfoldable pub polyline : Fields → Result (List Point) Cause
polyline fields = if are_points (length fields) then points_at fields else Err FieldCount

-- a track, unless it has too many dabs
abbrev pub measured : Trail → Result Trail Cause
measured t = if nat_le (length (centres t)) 4096 then Ok t else Err TooManyDabs

-- a track along some points
abbrev pub along : ℕ → Stamp → Result (List Point) Cause → Result Trail Cause
along gap s told = told >>= λ ps. measured (trail ps gap s)

-- a track, from its radius on
unfoldable pub trail_of : Fields → Result Trail Cause
trail_of (radius ∷ edge ∷ colour ∷ operation ∷ strength ∷ gap ∷ others) = do
  s ← stamp radius edge colour operation strength
  g ← natural 1 255 gap
  along g s (polyline others)
trail_of _ = Err FieldCount

-- a tile of the world
unfoldable pub cell_at : List ℕ → List ℕ → Result Key Cause
cell_at column row = do
  x ← number_in (negsuc 255) (pos 255) column
  y ← number_in (negsuc 255) (pos 255) row
  Ok (key x y)

-- the job of a track in a tile
unfoldable pub track : Fields → Result Job Cause
track (column ∷ row ∷ others) = do
  k ← cell_at column row
  t ← trail_of others
  checked (job.Track t k)
track _ = Err FieldCount

-- a stroke and a track, all of whose dabs lie in the world
abbrev pub drawn : ℕ → Trail → Result (ℕ × Trail) Cause
drawn n t = if list_all (λ a. lies_in a world) (squares t) then Ok (n, t) else Err OutOfWorld

-- a path: the number of its stroke, and its track
unfoldable pub path : Fields → Result (ℕ × Trail) Cause
path (number ∷ others) = if are_points (length others - 6) then (do
  n ← natural 0 4294967295 number
  t ← trail_of others
  drawn n t)
    else Err FieldCount
path _ = Err FieldCount

-- whether a job has so many fields behind its stroke and its kind
abbrev pub job_fields : JobWord → ℕ → Bool
job_fields Move n = n == 6
job_fields Blur n = n == 5
job_fields Track n = are_points (n - 8)
job_fields work n = n == 7

-- the job that these fields say
unfoldable pub job_of : JobWord → Fields → Result Job Cause
job_of Fill (left ∷ top ∷ width ∷ height ∷ colour ∷ operation ∷ strength ∷ []) = do
  o ← outline left top width height
  i ← ink colour operation strength
  checked (job.Fill (area_of o) i.colour i.op i.strength)
job_of Dab (left ∷ top ∷ radius ∷ edge ∷ colour ∷ operation ∷ strength ∷ []) = do
  t ← tip left top radius edge
  i ← ink colour operation strength
  checked (job.Dab t.x t.y t.r t.soft i.colour i.op i.strength)
job_of Move (left ∷ top ∷ width ∷ height ∷ columns ∷ rows ∷ []) = do
  o ← outline left top width height
  dx ← distance columns
  dy ← distance rows
  checked (job.Move (area_of o) dx dy)
job_of Blur (left ∷ top ∷ width ∷ height ∷ radius ∷ []) = do
  o ← outline left top width height
  r ← natural 1 16 radius
  checked (job.Blur (area_of o) r)
job_of Track fields = track fields
job_of work fields = Err FieldCount

-- a job of a stroke
unfoldable pub paint : JobWord → Fields → Result Command Cause
paint work (number ∷ kind ∷ others) = if job_fields work (length others) then (do
  n ← natural 0 4294967295 number
  k ← kind_of kind
  j ← job_of work others
  Ok (Add n k j))
    else Err FieldCount
paint work _ = Err FieldCount
