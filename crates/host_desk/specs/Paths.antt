-- What a path by numbers says.
use Rattle.std.specs.Prelude.{ℕ, nat_le, Bool, ◌&&◌, if◌then◌else◌, Result, Err, List, length, map}
use Rattle.std.specs.List.{list_all}
use Rattle.std.specs.Option.{ok_or}
use Rattle.geom_core.specs.Areas.{Point, point}
use Rattle.doc_model.specs.Trails.{Trail, trail}
use Rattle.doc_model.specs.declared.track.Stamp.{Stamp}
use Rattle.script_lines.specs.declared.cause.Cause.{Cause}
use Rattle.script_lines.specs.declared.cause.Cause.TheVariants.{FieldCount, Range}
use Rattle.script_lines.specs.Values.{◌>>=◌}
use Rattle.script_forms.specs.Jobs.{drawn, measured}
use Rattle.script_forms.specs.Ranges.{is_short}
use Rattle.host_lines.specs.declared.structs.StrokesBrush.{StrokesBrush}
use Rattle.host_lines.specs.Values.{stamp_by}
use Rattle.host_lines.specs.declared.structs.StrokesPoint.{StrokesPoint}

-- the point of these numbers
abbrev pub spot : StrokesPoint → Point
spot p = point p.x p.y

-- what a brush lays, or that a number is outside its range
abbrev pub stamped : StrokesBrush → Result Stamp Cause
stamped b = ok_or (stamp_by b) Range

-- whether a column and a row are some that a line may tell
abbrev pub is_near : StrokesPoint → Bool
is_near p = is_short (spot p)

-- the track of these numbers, or the first cause of those that a path of a script may have
unfoldable pub track_by : ℕ → List StrokesPoint → StrokesBrush → Result Trail Cause
track_by gap ps b =
    if nat_le 2 (length ps) && nat_le (length ps) 8
    then (if nat_le 1 gap && list_all is_near ps then (stamped b >>= (λ s. measured (trail (map spot ps) gap s))) else Err Range)
    else Err FieldCount

-- the same with the stroke's number, where all dabs lie in the world
unfoldable pub path_by : ℕ → ℕ → List StrokesPoint → StrokesBrush → Result (ℕ × Trail) Cause
path_by n gap ps b = track_by gap ps b >>= drawn n
