use Rattle.std.proofs.Common.{◌≡◌, drop}
use Rattle.tree_core.proofs.Passes.{first_with}
use Rattle.tree_core.proofs.lookup.group_at.Given as goal

abbrev pub invariant-loop-i : goal.invariant-loop-i
invariant-loop-i l = first_with l.id l.nodes ≡ first_with l.id (drop l.i l.nodes)
