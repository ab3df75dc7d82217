use Rattle.std.proofs.Common.{◌≡◌, ◌-◌, ◌≤◌, drop}
use Rattle.tree_core.proofs.Passes.{kid_at}
use Rattle.tree_core.proofs.lookup.child_at.Given as goal

abbrev pub invariant-loop-n : goal.invariant-loop-n
invariant-loop-n l = (kid_at l.depth l.place l.nodes ≡ kid_at l.depth (l.place - l.passed) (drop l.n-index l.nodes)) × (l.passed ≤ l.place)
