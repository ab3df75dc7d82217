use Rattle.std.proofs.Common.{take}
use Rattle.job_core.specs.Points.{spot, LaysPoints}
use Rattle.job_core.proofs.points.PointWorkLays.lay.Given as goal

-- the jobs so far are laid
abbrev pub invariant-loop-entry : goal.invariant-loop-entry
invariant-loop-entry l = LaysPoints (spot (take l.entry-index l.self.jobs) l.self.key) l.initial.tile l.tile
