use Rattle.std.proofs.Common.{◌≡◌, ◌≤◌, ◌-◌, length, drop}
use Rattle.tree_core.proofs.common.common_back.Given as goal

abbrev pub invariant-loop-back : goal.invariant-loop-back
invariant-loop-back l = record { within : l.back ≤ length l.here; there : l.back ≤ length l.there; same : drop (length l.here - l.back) l.here ≡ drop (length l.there - l.back) l.there }

abbrev pub decreases-loop-back : goal.decreases-loop-back
decreases-loop-back l = length l.here - l.back
