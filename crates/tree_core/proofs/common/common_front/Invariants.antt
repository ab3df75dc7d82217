use Rattle.std.proofs.Common.{◌≡◌, ◌≤◌, ◌-◌, length, take}
use Rattle.tree_core.proofs.common.common_front.Given as goal

abbrev pub invariant-loop-front : goal.invariant-loop-front
invariant-loop-front l = record { within : l.front ≤ length l.here; there : l.front ≤ length l.there; same : take l.front l.here ≡ take l.front l.there }

abbrev pub decreases-loop-front : goal.decreases-loop-front
decreases-loop-front l = length l.here - l.front
