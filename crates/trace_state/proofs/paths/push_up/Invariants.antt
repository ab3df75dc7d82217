use Rattle.std.proofs.Common.{◌≡◌, ◌++◌, length}
use Rattle.trace_state.specs.Trees.{up_from}
use Rattle.trace_state.proofs.paths.push_up.Given as goal

-- the way up from here is left
abbrev pub invariant-loop-at : goal.invariant-loop-at
invariant-loop-at l = l.path.items ++ up_from l.at l.tree ≡ l.initial.path.items ++ up_from l.group l.tree

abbrev pub decreases-loop-at : goal.decreases-loop-at
decreases-loop-at l = length (up_from l.at l.tree)
