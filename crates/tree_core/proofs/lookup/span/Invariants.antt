use Rattle.std.proofs.Common.{◌≡◌, ◌++◌, None, drop, take}
use Rattle.tree_core.proofs.Passes.{cut, part}
use Rattle.tree_core.proofs.lookup.span.Given as goal

abbrev pub invariant-loop-i : goal.invariant-loop-i
invariant-loop-i l = (part l.id l.nodes ≡ part l.id (drop l.i l.nodes)) × (cut l.id None l.nodes ≡ take l.i l.nodes ++ cut l.id None (drop l.i l.nodes))
