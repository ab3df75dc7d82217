use Rattle.std.proofs.Common.{◌≡◌, ◌++◌, map, take}
use Rattle.doc_model.specs.Tracks.{point_of}
use Rattle.script_text.specs.Text.{spaced, points_fields}
use Rattle.script_text.proofs.printing.add_points.Given as goal

-- the points so far are printed
abbrev pub invariant-loop-i : goal.invariant-loop-i
invariant-loop-i l = l.out.items ≡ l.initial.out.items ++ spaced (points_fields (map point_of (take l.i l.points)))
