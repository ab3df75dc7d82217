use Rattle.std.proofs.Common.{◌≡◌, map, drop}
use Rattle.doc_model.specs.Tracks.{point_of}
use Rattle.doc_model.proofs.Staying.{all_stay}
use Rattle.doc_model.proofs.job.stays_in_world.Given as goal

abbrev pub invariant-loop-point : goal.invariant-loop-point
invariant-loop-point l = all_stay l.r (map point_of (drop l.point-index l.point-items)) ≡ all_stay l.r (map point_of l.point-items)
