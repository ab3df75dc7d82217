use Rattle.std.proofs.Common.{◌≡◌, ◌≤◌, ◌++◌, suc, length, take}
use Rattle.doc_model.specs.Flat.{EndsAt}
use Rattle.tree_core.specs.Outline.{outline_due}
use Rattle.tree_core.proofs.GroupsDue.{Rows}
use Rattle.tree_core.proofs.outline.leave.Given as goal

-- the groups so far are left, and the first ones still stand round what comes
abbrev pub invariant-loop-left : goal.invariant-loop-left
invariant-loop-left l = (l.left ≤ length l.around.items) × ((rows : Rows) → EndsAt (suc l.depth) rows → l.stages.items ++ outline_due 0 (take l.left l.around.items) rows ≡ l.initial.stages.items ++ outline_due 0 l.around.items rows)

abbrev pub decreases-loop-left : goal.decreases-loop-left
decreases-loop-left l = l.left
