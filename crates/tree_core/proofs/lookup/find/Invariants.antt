use Rattle.std.proofs.Common.{◌≡◌, drop}
use Rattle.tree_core.proofs.Passes.{first_with}
use Rattle.tree_core.proofs.lookup.find.Given as goal

abbrev pub invariant-loop-n : goal.invariant-loop-n
invariant-loop-n l = first_with l.id l.nodes ≡ first_with l.id (drop l.n-index l.nodes)
