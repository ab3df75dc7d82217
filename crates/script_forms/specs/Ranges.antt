-- The ranges of numbers in scripts.
use Rattle.std.specs.Prelude.{ℕ, ◌==◌, nat_le, ℤ, pos, Bool, negsuc, true, int_le, length, ◌≤ℤ◌, ◌&&◌, ◌≤◌, Result, Ok, Err, if◌then◌else◌}
use Rattle.std.specs.List.{list_all}
use Rattle.geom_core.specs.Areas.{Point, Area, lies_in, world}
use Rattle.doc_model.specs.Trails.{Trail}
use Rattle.script_lines.specs.Colours.{is_byte, is_pixel}
use Rattle.doc_model.specs.declared.canvas.Canvas.{Canvas}
use Rattle.doc_model.specs.declared.job.Job.{Job}
use Rattle.doc_model.specs.declared.job.Job.TheVariants as job
use Rattle.doc_model.specs.declared.tree.Change.{Change}
use Rattle.doc_model.specs.declared.tree.Change.TheVariants as change
use Rattle.doc_model.specs.declared.command.Command.{Command}
use Rattle.doc_model.specs.declared.command.Command.TheVariants as command
use Rattle.doc_model.specs.Lawful.{within_limits}
use Rattle.script_lines.specs.declared.cause.Cause.{Cause}
use Rattle.script_lines.specs.declared.cause.Cause.TheVariants.{OutOfWorld}
use Rattle.script_forms.specs.declared.jobs.Outline.{Outline}
use Rattle.script_forms.specs.declared.jobs.Tip.{Tip}
use Rattle.doc_model.specs.Jobs.{checks}

-- a node's number
abbrev pub is_id : ℕ → Bool
is_id n = nat_le 1 n && nat_le n 65535

-- whether the sides are within the limits and the paper is opaque
abbrev pub in_limits : Canvas → Bool
in_limits c = ((nat_le 1 c.w && nat_le c.w 2048) && (nat_le 1 c.h && nat_le c.h 2048)) && (is_pixel c.paper && (c.paper.a == 255))

-- a node, the group above it and its place there
abbrev pub is_spot : ℕ → ℕ → ℕ → Bool
is_spot id parent place = is_id id && (nat_le parent 65535 && is_byte place)

-- whether a column or a row is one that a field may tell
abbrev pub is_coordinate : ℤ → Bool
is_coordinate x = int_le (negsuc 32767) x && int_le x (pos 32767)

abbrev pub is_short : Point → Bool
is_short p = is_coordinate p.x && is_coordinate p.y

-- whether each number of a track is in its range
abbrev pub trail_in_range : Trail → Bool
trail_in_range t =
    (list_all is_short t.points && (nat_le 2 (length t.points) && nat_le (length t.points) 8))
    && ((nat_le 1 t.gap && nat_le t.gap 255) && (nat_le t.stamp.r 128 && (is_pixel t.stamp.colour && is_byte t.stamp.strength)))

abbrev pub change_in_range : Change → Bool
change_in_range (change.Layer id parent place p) = is_spot id parent place && is_pixel p
change_in_range (change.Group id parent place) = is_spot id parent place
change_in_range (change.Remove id) = is_id id
change_in_range (change.Place id parent place) = is_spot id parent place
change_in_range (change.Look id look) = is_id id && is_byte look.opacity

-- the numbers of a rectangle, a radius and a distance are in range for each job that meets the limits and lies in the world
abbrev pub job_in_range : Job → Bool
job_in_range (job.Fill rect colour op strength) = is_pixel colour && is_byte strength
job_in_range (job.Dab x y r soft colour op strength) = is_pixel colour && is_byte strength
job_in_range (job.Move rect dx dy) = true
job_in_range (job.Blur rect r) = true
job_in_range (job.Track t cell) = trail_in_range t

abbrev pub is_number : ℕ → Bool
is_number n = nat_le n 4294967295

-- whether each number of a command is in its range
abbrev pub in_range : Command → Bool
in_range (command.Change change) = change_in_range change
in_range (command.Stroke n layer exclusive) = is_number n && is_id layer
in_range (command.Add n kind job) = is_number n && job_in_range job
in_range (command.End n) = is_number n
in_range (command.Cancel n) = is_number n
in_range command.Undo = true
in_range command.Redo = true
in_range (command.Purge keep) = is_number keep
in_range command.Export = true

-- whether the job of a command meets the limits and lies in the world
abbrev pub is_sound : Command → Bool
is_sound (command.Add n kind job) = checks job && within_limits job
is_sound c = true

-- the numbers are in their ranges
pub record IsOutline (o : Outline) : Type 0 where
  pub left : negsuc 32767 ≤ℤ o.x
  pub right : o.x ≤ℤ pos 32767
  pub top : negsuc 32767 ≤ℤ o.y
  pub bottom : o.y ≤ℤ pos 32767
  pub some_w : 1 ≤ o.w
  pub w : o.w ≤ 4096
  pub some_h : 1 ≤ o.h
  pub h : o.h ≤ 4096

-- the numbers are in their ranges
pub record IsTip (t : Tip) : Type 0 where
  pub left : negsuc 32767 ≤ℤ t.x
  pub right : t.x ≤ℤ pos 32767
  pub top : negsuc 32767 ≤ℤ t.y
  pub bottom : t.y ≤ℤ pos 32767
  pub r : t.r ≤ 128

-- a rectangle, where the world holds it
abbrev pub in_world : Area → Result Area Cause
in_world a = if lies_in a world then Ok a else Err OutOfWorld
