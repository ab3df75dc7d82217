use Rattle.script_lines.specs.Fronts.{pointed}
use Rattle.script_forms.proofs.Polylines.{PairsRead}
use Rattle.script_forms.proofs.tracks.read_points.Given as goal

-- the points so far are those of the first pairs
abbrev pub invariant-loop-i : goal.invariant-loop-i
invariant-loop-i l = PairsRead (pointed l.fields) l.i l.points
