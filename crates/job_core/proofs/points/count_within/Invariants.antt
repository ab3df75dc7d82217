use Rattle.std.proofs.Common.{◌≡◌, ◌+◌, drop, length}
use Rattle.std.specs.List.{take_while}
use Rattle.job_core.specs.Points.{is_within}
use Rattle.job_core.proofs.points.count_within.Given as goal

-- what is still to be counted
abbrev pub invariant-loop-i : goal.invariant-loop-i
invariant-loop-i l = length (take_while (λ j. is_within l.bounds j.1) l.jobs) ≡ l.i + length (take_while (λ j. is_within l.bounds j.1) (drop l.i l.jobs))
