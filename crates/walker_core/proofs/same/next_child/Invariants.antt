use Rattle.std.specs.Prelude.{◌≡◌, drop}
use Rattle.geom_core.specs.Areas.{Area}
use Rattle.walker_core.specs.Views.{children_in}
use Rattle.walker_core.proofs.same.next_child.Given as goal

-- no child of the group stood so far
abbrev pub invariant-loop-at : goal.invariant-loop-at
invariant-loop-at l = (rect : Area) → children_in rect l.group (drop l.from l.sources) ≡ children_in rect l.group (drop l.at l.sources)
