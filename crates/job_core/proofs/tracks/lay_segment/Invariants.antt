use Rattle.std.proofs.Common.{◌*◌}
use Rattle.doc_model.specs.Trails.{along, how_many_on}
use Rattle.doc_model.specs.Tracks.{point_of}
use Rattle.job_core.proofs.Tracked.{PlacesLeft}
use Rattle.job_core.proofs.tracks.lay_segment.Given as goal

-- the dabs from this place on are still to be laid
abbrev pub invariant-loop-k : goal.invariant-loop-k
invariant-loop-k l = PlacesLeft l.key l.stamp (λ j. along (point_of l.segment.from) (point_of l.segment.to) (j * l.gap)) (how_many_on l.gap (point_of l.segment.from) (point_of l.segment.to)) l.k l.initial.tile l.tile
