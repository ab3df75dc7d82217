use Rattle.std.proofs.Common.{◌≡◌, ◌+◌, drop, length}
use Rattle.tree_core.proofs.Passes.{deeper}
use Rattle.tree_core.proofs.lookup.deeper.Given as goal

abbrev pub invariant-loop-i : goal.invariant-loop-i
invariant-loop-i l = length (deeper l.depth l.nodes) ≡ l.i + length (deeper l.depth (drop l.i l.nodes))
