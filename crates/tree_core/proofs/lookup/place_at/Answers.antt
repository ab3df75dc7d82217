use Rattle.std.proofs.Common.{◌≡◌, ◌+◌, ◌-◌, true, false, drop, length, ◌∙◌, arith}
use Rattle.std.specs.List.{remove_range}
use Rattle.tree_core.proofs.Others.{length_left}
use Rattle.tree_core.proofs.Places.{place_told, none_missing, some_missing, counted_last, at_end, at_above, at_child, past}
use Rattle.tree_core.proofs.lookup.place_at.Goals as goal

pub returns-then-passed-place-clause-there : goal.returns-then-passed-place-clause-there
returns-then-passed-place-clause-there c = place_told _ _ (drop c.args.group.start (remove_range c.args.nodes.now c.args.branch.start c.args.branch.end)) false
    (at_above c.args.group.depth c.args.place c.args.group.start (remove_range c.args.nodes.now c.args.branch.start c.args.branch.end) c.loop-i.i c.loop-i.passed c.loop-i.invariant c.other-depth.result (let l : length (remove_range c.args.nodes.now c.args.branch.start c.args.branch.end) + (c.args.branch.end - c.args.branch.start) ≡ length c.args.nodes.now = length_left c.args.nodes.now c.args.branch.start c.args.branch.end c.requires.order c.requires.within in omega (arith, c.loop-i-test.true)) c.other-depth.ensures c.if-depth-group.true ∙ none_missing c.args.place c.loop-i.passed c.if-passed-place.true)

pub returns-else-passed-place-clause-there : goal.returns-else-passed-place-clause-there
returns-else-passed-place-clause-there c = place_told _ _ (drop c.args.group.start (remove_range c.args.nodes.now c.args.branch.start c.args.branch.end)) true
    (at_above c.args.group.depth c.args.place c.args.group.start (remove_range c.args.nodes.now c.args.branch.start c.args.branch.end) c.loop-i.i c.loop-i.passed c.loop-i.invariant c.other-depth.result (let l : length (remove_range c.args.nodes.now c.args.branch.start c.args.branch.end) + (c.args.branch.end - c.args.branch.start) ≡ length c.args.nodes.now = length_left c.args.nodes.now c.args.branch.start c.args.branch.end c.requires.order c.requires.within in omega (arith, c.loop-i-test.true)) c.other-depth.ensures c.if-depth-group.true ∙ some_missing c.args.place c.loop-i.passed c.loop-i.invariant.low c.if-passed-place.false)

pub returns-then-passed-place-2-clause-there : goal.returns-then-passed-place-2-clause-there
returns-then-passed-place-2-clause-there c = place_told _ _ (drop c.args.group.start (remove_range c.args.nodes.now c.args.branch.start c.args.branch.end)) false
    (at_child c.args.group.depth c.args.place c.args.group.start (remove_range c.args.nodes.now c.args.branch.start c.args.branch.end) c.loop-i.i c.loop-i.passed c.loop-i.invariant c.other-depth.result (let l : length (remove_range c.args.nodes.now c.args.branch.start c.args.branch.end) + (c.args.branch.end - c.args.branch.start) ≡ length c.args.nodes.now = length_left c.args.nodes.now c.args.branch.start c.args.branch.end c.requires.order c.requires.within in omega (arith, c.loop-i-test.true)) c.other-depth.ensures (counted_last c.other-depth.result.depth c.args.group.depth c.args.place c.loop-i.passed c.from-passed.result c.from-passed.ensures c.loop-i.invariant.low c.if-passed-place-2.true).0 (counted_last c.other-depth.result.depth c.args.group.depth c.args.place c.loop-i.passed c.from-passed.result c.from-passed.ensures c.loop-i.invariant.low c.if-passed-place-2.true).1)

pub loop-i-preserved : goal.loop-i-preserved
loop-i-preserved c = past c.args.group.depth c.args.place c.args.group.start (remove_range c.args.nodes.now c.args.branch.start c.args.branch.end) c.loop-i.i c.loop-i.passed c.loop-i.invariant c.other-depth.result (let l : length (remove_range c.args.nodes.now c.args.branch.start c.args.branch.end) + (c.args.branch.end - c.args.branch.start) ≡ length c.args.nodes.now = length_left c.args.nodes.now c.args.branch.start c.args.branch.end c.requires.order c.requires.within in omega (arith, c.loop-i-test.true)) c.other-depth.ensures c.from-passed.result c.from-passed.ensures c.if-depth-group.false c.if-passed-place-2.false

pub returns-then-passed-place-3-clause-there : goal.returns-then-passed-place-3-clause-there
returns-then-passed-place-3-clause-there c = place_told _ _ (drop c.args.group.start (remove_range c.args.nodes.now c.args.branch.start c.args.branch.end)) false
    (at_end c.args.group.depth c.args.place c.args.group.start (remove_range c.args.nodes.now c.args.branch.start c.args.branch.end) c.loop-i.i c.loop-i.passed c.loop-i.invariant (let l : length (remove_range c.args.nodes.now c.args.branch.start c.args.branch.end) + (c.args.branch.end - c.args.branch.start) ≡ length c.args.nodes.now = length_left c.args.nodes.now c.args.branch.start c.args.branch.end c.requires.order c.requires.within in omega (arith, c.loop-i-test.false)) ∙ none_missing c.args.place c.loop-i.passed c.if-passed-place-3.true)

pub returns-else-passed-place-3-clause-there : goal.returns-else-passed-place-3-clause-there
returns-else-passed-place-3-clause-there c = place_told _ _ (drop c.args.group.start (remove_range c.args.nodes.now c.args.branch.start c.args.branch.end)) true
    (at_end c.args.group.depth c.args.place c.args.group.start (remove_range c.args.nodes.now c.args.branch.start c.args.branch.end) c.loop-i.i c.loop-i.passed c.loop-i.invariant (let l : length (remove_range c.args.nodes.now c.args.branch.start c.args.branch.end) + (c.args.branch.end - c.args.branch.start) ≡ length c.args.nodes.now = length_left c.args.nodes.now c.args.branch.start c.args.branch.end c.requires.order c.requires.within in omega (arith, c.loop-i-test.false)) ∙ some_missing c.args.place c.loop-i.passed c.loop-i.invariant.low c.if-passed-place-3.false)
