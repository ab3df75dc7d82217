use Rattle.job_core.proofs.Tracked.{TrackSoFar}
use Rattle.job_core.proofs.tracks.lay_track.Given as goal

-- the dabs on the segments so far are laid
abbrev pub invariant-loop-i : goal.invariant-loop-i
invariant-loop-i l = TrackSoFar l.key l.stamp l.gap l.points l.i l.initial.tile l.tile
