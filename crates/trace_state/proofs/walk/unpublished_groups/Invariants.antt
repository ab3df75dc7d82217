use Rattle.std.proofs.Common.{◌≡◌, take, map}
use Rattle.trace_state.specs.Walking.{unpublished}
use Rattle.trace_state.proofs.walk.unpublished_groups.Given as goal

abbrev pub invariant-loop-group : goal.invariant-loop-group
invariant-loop-group l = l.groups.items ≡ map unpublished (take l.group-index l.path)
