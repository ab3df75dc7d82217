use Rattle.std.proofs.Common.{◌≡◌, ◌≤◌, ◌+◌, drop}
use Rattle.tree_core.proofs.Passes.{kids}
use Rattle.tree_core.proofs.lookup.children_at.Given as goal

abbrev pub invariant-loop-n : goal.invariant-loop-n
invariant-loop-n l = (kids l.depth l.nodes ≡ l.count + kids l.depth (drop l.n-index l.nodes)) × (l.count ≤ l.n-index)
