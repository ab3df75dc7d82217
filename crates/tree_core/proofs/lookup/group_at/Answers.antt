use Rattle.std.proofs.Common.{◌≡◌, ◌∙◌, ap, sym, None, suc, not, ◌+◌, arith}
use Rattle.std.proofs.lemmas.Grind.{common_steps}
use Rattle.tree_core.specs.Nodes.{tree_of}
use Rattle.tree_core.proofs.Passes.{first_with}
use Rattle.tree_core.proofs.Starts.{start_at}
use Rattle.tree_core.proofs.Depths.{depth_found, depth_few}
use Rattle.tree_core.proofs.Once.{takes_found, takes_lost, first_at, root_depth}
use Rattle.tree_core.proofs.lookup.group_at.Goals as goal

pub returns-then-id-eq0-clause-depth : goal.returns-then-id-eq0-clause-depth
returns-then-id-eq0-clause-depth c = root_depth c.args.id c.args.nodes.now c.requires.kept c.if-id-eq0.true

pub returns-then-nodes-i-2-clause-there : goal.returns-then-nodes-i-2-clause-there
returns-then-nodes-i-2-clause-there c = ap not (sym c.if-nodes-i-2.true) ∙ takes_found c.args.id c.args.nodes.now _ c.requires.kept c.if-id-eq0.false (first_at c.args.id c.args.nodes.now c.loop-i.i _ c.loop-i.invariant c.loop-i-test.true c.if-nodes-i.true)

pub overflow_add-result-then-nodes-i : goal.overflow_add-result-then-nodes-i
overflow_add-result-then-nodes-i c = omega (arith, depth_few c.args.id c.args.nodes.now _ c.requires.kept (first_at c.args.id c.args.nodes.now c.loop-i.i _ c.loop-i.invariant c.loop-i-test.true c.if-nodes-i.true))

pub returns-then-nodes-i-clause-there : goal.returns-then-nodes-i-clause-there
returns-then-nodes-i-clause-there c = ap not (sym c.if-nodes-i-2.false) ∙ takes_found c.args.id c.args.nodes.now _ c.requires.kept c.if-id-eq0.false (first_at c.args.id c.args.nodes.now c.loop-i.i _ c.loop-i.invariant c.loop-i-test.true c.if-nodes-i.true)

pub returns-then-nodes-i-clause-start : goal.returns-then-nodes-i-clause-start
returns-then-nodes-i-clause-start c = (let one : c.loop-i.i + 1 ≡ suc c.loop-i.i = omega arith in one) ∙ sym (start_at c.args.id c.args.nodes.now c.loop-i.i _ c.requires.kept c.if-id-eq0.false c.loop-i-test.true c.if-nodes-i.true)

pub returns-then-nodes-i-clause-depth : goal.returns-then-nodes-i-clause-depth
returns-then-nodes-i-clause-depth c = depth_found c.args.id c.args.nodes.now (tree_of c.args.nodes.now) _ c.requires.kept (λ _. tree_of c.args.nodes.now) (first_at c.args.id c.args.nodes.now c.loop-i.i _ c.loop-i.invariant c.loop-i-test.true c.if-nodes-i.true)

pub returns-clause-there : goal.returns-clause-there
returns-clause-there c =
    let e : first_with c.args.id c.args.nodes.now ≡ None = grind (arith, common_steps) in takes_lost c.args.id c.args.nodes.now c.requires.kept c.if-id-eq0.false e
