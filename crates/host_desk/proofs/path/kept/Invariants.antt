use Rattle.std.proofs.Common.{◌≡◌, length, map, take}
use Rattle.doc_model.specs.Tracks.{point_of}
use Rattle.host_desk.specs.Paths.{spot}
use Rattle.host_desk.proofs.path.kept.Given as goal

-- the points so far are kept
abbrev pub invariant-loop-i : goal.invariant-loop-i
invariant-loop-i l = (map point_of (take l.i l.kept) ≡ map spot (take l.i l.points)) × (length l.kept ≡ 8)
