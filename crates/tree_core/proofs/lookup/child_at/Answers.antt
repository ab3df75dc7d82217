use Rattle.std.proofs.Common.{◌≡◌, ◌-◌, ◌∙◌, None, arith}
use Rattle.std.proofs.lemmas.Grind.{common_steps}
use Rattle.tree_core.proofs.Passes.{kid_at, kid_at_is, kid_found, kid_none}
use Rattle.tree_core.proofs.Places.{counted_last}
use Rattle.tree_core.proofs.lookup.child_at.Goals as goal

pub returns-then-n-depth : goal.returns-then-n-depth
returns-then-n-depth c = kid_none c.args.depth c.args.place c.args.nodes.now c.loop-n.n-index _ _ c.loop-n.invariant.0 c.loop-n-test.true c.if-n-depth.true ∙ kid_at_is c.args.depth c.args.place c.args.nodes.now

pub returns-then-passed-place : goal.returns-then-passed-place
returns-then-passed-place c =
    let last : (_ ≡ c.args.depth) × (c.args.place - c.loop-n.passed ≡ 0) = counted_last _ c.args.depth c.args.place c.loop-n.passed c.from-passed.result c.from-passed.ensures c.loop-n.invariant.1 c.if-passed-place.true in
    kid_found c.args.depth c.args.place c.args.nodes.now c.loop-n.n-index _ _ c.loop-n.invariant.0 c.loop-n-test.true last.0 last.1 ∙ kid_at_is c.args.depth c.args.place c.args.nodes.now

pub returns : goal.returns
returns c =
    let e : None ≡ kid_at c.args.depth c.args.place c.args.nodes.now = grind (arith, common_steps) in e ∙ kid_at_is c.args.depth c.args.place c.args.nodes.now
