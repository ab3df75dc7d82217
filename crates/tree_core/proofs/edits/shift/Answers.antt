use Rattle.tree_core.proofs.Shifts.{moved_back, moved_on}
use Rattle.tree_core.proofs.edits.shift.Goals as goal

pub returns-then-at-branch : goal.returns-then-at-branch
returns-then-at-branch c = moved_back c.args.nodes.now c.rotate_left.new.self c.args.branch.start c.args.branch.end c.args.at c.requires.order c.requires.within c.if-at-branch.true c.rotate_left.ensures.after

pub returns-else-at-branch : goal.returns-else-at-branch
returns-else-at-branch c = moved_on c.args.nodes.now c.rotate_left-else-at-branch.new.self c.args.branch.start c.args.branch.end c.args.at c.requires.order c.requires.within c.if-at-branch.false c.requires.place c.rotate_left-else-at-branch.ensures.after
