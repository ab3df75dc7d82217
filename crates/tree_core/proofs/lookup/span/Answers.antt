use Rattle.std.proofs.Common.{◌≡◌, ◌++◌, ◌-◌, None, length, take, drop, ap, ◌∙◌, sym, subst, arith}
use Rattle.std.proofs.lemmas.Grind.{common_steps}
use Rattle.tree_core.specs.Nodes.{rows_of, tree_of, IsKept}
use Rattle.tree_core.proofs.Passes.{cut, part}
use Rattle.tree_core.proofs.Segments.{part_only}
use Rattle.tree_core.proofs.Removal.{tree_cut, kept_cut}
use Rattle.tree_core.proofs.Spans.{part_here, left_here}
use Rattle.tree_core.proofs.lookup.span.Goals as goal

pub returns-then-nodes-i-clause-branch : goal.returns-then-nodes-i-clause-branch
returns-then-nodes-i-clause-branch c =
    ap rows_of (part_here c.args.id c.args.nodes.now c.loop-i.i _ c.deeper.result c.loop-i-test.true c.if-nodes-i.true c.deeper.ensures.value c.loop-i.invariant.0) ∙ part_only c.args.id c.args.nodes.now c.requires.kept

pub returns-then-nodes-i-clause-left : goal.returns-then-nodes-i-clause-left
returns-then-nodes-i-clause-left c =
    ap tree_of (left_here c.args.id c.args.nodes.now c.loop-i.i _ c.deeper.result c.loop-i-test.true c.if-nodes-i.true c.deeper.ensures.value c.requires.kept c.loop-i.invariant.1) ∙ tree_cut c.args.id c.args.nodes.now c.requires.kept

pub returns-then-nodes-i-clause-kept : goal.returns-then-nodes-i-clause-kept
returns-then-nodes-i-clause-kept c =
    subst IsKept (sym (left_here c.args.id c.args.nodes.now c.loop-i.i _ c.deeper.result c.loop-i-test.true c.if-nodes-i.true c.deeper.ensures.value c.requires.kept c.loop-i.invariant.1)) (kept_cut c.args.id c.args.nodes.now c.requires.kept)

pub returns-clause-branch : goal.returns-clause-branch
returns-clause-branch c =
    let e : take (length c.args.nodes.now - length c.args.nodes.now) (drop (length c.args.nodes.now) c.args.nodes.now) ≡ part c.args.id c.args.nodes.now = grind (arith, common_steps) in ap rows_of e ∙ part_only c.args.id c.args.nodes.now c.requires.kept

pub returns-clause-left : goal.returns-clause-left
returns-clause-left c =
    let e : take (length c.args.nodes.now) c.args.nodes.now ++ drop (length c.args.nodes.now) c.args.nodes.now ≡ cut c.args.id None c.args.nodes.now = grind (arith, common_steps) in ap tree_of e ∙ tree_cut c.args.id c.args.nodes.now c.requires.kept
