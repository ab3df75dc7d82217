use Rattle.std.proofs.Common.{◌≡◌, ◌++◌, drop, take, map, is_some}
use Rattle.tree_core.specs.Nodes.{node_with_look}
use Rattle.tree_core.proofs.Passes.{first_with}
use Rattle.tree_core.proofs.edits.set_look.Given as goal

abbrev pub invariant-loop-i : goal.invariant-loop-i
invariant-loop-i l = (l.nodes ≡ map (node_with_look l.id l.look) (take l.i l.initial.nodes) ++ drop l.i l.initial.nodes) × (l.there ≡ is_some (first_with l.id (take l.i l.initial.nodes)))
