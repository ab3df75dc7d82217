use Rattle.std.proofs.Common.{rules, ◌≡◌, ◌++◌, false}
use Rattle.doc_model.specs.Forest.{has}
use Rattle.trace_state.specs.Trees.{up_from}
use Rattle.trace_state.proofs.TreeWays.{one_shorter, way_on, way_breaks}
use Rattle.trace_state.proofs.paths.push_up.Goals as goal

pub loop-at-smaller : goal.loop-at-smaller
loop-at-smaller c = one_shorter c.loop-at.at c.in-Some.parent c.args.tree.now c.node_count-count.ensures.limits.tree c.loop-at-test.true c.in-Some.ensures.value

pub loop-at-preserved : goal.loop-at-preserved
loop-at-preserved c = way_on c.loop-at.at c.in-Some.parent c.args.tree.now c.loop-at.path.items c.push.new.self.items (c.args.path.now.items ++ up_from c.args.group c.args.tree.now) c.node_count-count.ensures.limits.tree c.loop-at-test.true c.in-Some.ensures.value (search rules) c.loop-at.invariant

pub returns-in_default : goal.returns-in_default
returns-in_default c =
    let away : has c.loop-at.at c.args.tree.now ≡ false = search rules in
    way_breaks c.loop-at.at c.args.tree.now c.loop-at.path.items (c.args.path.now.items ++ up_from c.args.group c.args.tree.now) c.loop-at-test.true away c.loop-at.invariant
