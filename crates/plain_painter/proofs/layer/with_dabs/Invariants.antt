use Rattle.std.proofs.Common.{◌≡◌, drop}
use Rattle.doc_model.specs.Trails.{centres}
use Rattle.doc_model.specs.Jobs.{all_stamped}
use Rattle.plain_painter.specs.Steps.{point_of}
use Rattle.plain_painter.proofs.layer.with_dabs.Given as goal

-- the dabs from this place on are still to be laid
abbrev pub invariant-loop-i : goal.invariant-loop-i
invariant-loop-i l = all_stamped l.track.stamp (drop l.i (centres l.track)) (point_of l.spot) l.pixel ≡ all_stamped l.track.stamp (centres l.track) (point_of l.spot) l.initial.pixel
