use Rattle.std.proofs.Common.{◌≡◌, true, false, refl, arith}
use Rattle.geom_core.proofs.Tests.{not_true}
use Rattle.std.proofs.lemmas.Result.{IfOk-weaker}
use Rattle.doc_model.specs.Changes.{takes}
use Rattle.doc_model.specs.Layers.{at}
use Rattle.machine_model.specs.Groups.{nodes_in}
use Rattle.machine_model.specs.Effects.{layer_in}
use Rattle.plain_painter.proofs.NextNodes.{IsNext, takes_read, next_read, has_look}
use Rattle.plain_painter.specs.Steps.{point_of}
use Rattle.plain_painter.proofs.Pictured.{none_told, hidden_told, child_told, group_told, layer_told}
use Rattle.plain_painter.proofs.picture.+nodes.Goals as goal
use Rattle.std.proofs.lemmas.Bool.{not-false}

pub with_child-returns-in_default : goal.with_child-returns-in_default
with_child-returns-in_default t c = none_told c.args.doc.now c.tree-tree.result.now c.args.group c.args.place (point_of c.args.spot) c.args.below c.tree-tree.ensures.value c.in_default.ensures

pub with_child-returns-in_default-look : goal.with_child-returns-in_default-look
with_child-returns-in_default-look t c = absurd (has_look c.args.doc.now c.tree-tree.result.now c.args.group c.args.place c.in-Some.id c.tree-tree.ensures.value c.in-Some.ensures (c.in_default-look.ensures.none.0 refl))

pub with_child-returns-then-not-look : goal.with_child-returns-then-not-look
with_child-returns-then-not-look t c =
    let next : IsNext c.args.doc.now (nodes_in c.args.group c.args.doc.now) c.args.place c.in-Some.id c.in-Some-look.look = next_read c.args.doc.now c.tree-tree.result.now c.args.group c.args.place c.in-Some.id c.in-Some-look.look c.requires.limits c.tree-tree.ensures.value c.in-Some.ensures c.in-Some-look.ensures.value in
    hidden_told c.args.doc.now (nodes_in c.args.group c.args.doc.now) c.args.place c.in-Some.id c.in-Some-look.look (point_of c.args.spot) c.args.below next (not_true c.in-Some-look.look.visible c.if-not-look.true)

pub with_child-overflow_sub-levels : goal.with_child-overflow_sub-levels
with_child-overflow_sub-levels t c =
    let next : IsNext c.args.doc.now (nodes_in c.args.group c.args.doc.now) c.args.place c.in-Some.id c.in-Some-look.look = next_read c.args.doc.now c.tree-tree.result.now c.args.group c.args.place c.in-Some.id c.in-Some-look.look c.requires.limits c.tree-tree.ensures.value c.in-Some.ensures c.in-Some-look.ensures.value in
    omega (arith, next.some, c.requires.low)

pub with_child-node_at-requires : goal.with_child-node_at-requires
with_child-node_at-requires t c =
    let next : IsNext c.args.doc.now (nodes_in c.args.group c.args.doc.now) c.args.place c.in-Some.id c.in-Some-look.look = next_read c.args.doc.now c.tree-tree.result.now c.args.group c.args.place c.in-Some.id c.in-Some-look.look c.requires.limits c.tree-tree.ensures.value c.in-Some.ensures c.in-Some-look.ensures.value in
    (omega (arith, c.decreases, next.some, c.requires.low), (c.requires.limits, (next.layer, λ g. omega (arith, next.low g, c.requires.low))))

pub with_child-returns : goal.with_child-returns
with_child-returns t c =
    let next : IsNext c.args.doc.now (nodes_in c.args.group c.args.doc.now) c.args.place c.in-Some.id c.in-Some-look.look = next_read c.args.doc.now c.tree-tree.result.now c.args.group c.args.place c.in-Some.id c.in-Some-look.look c.requires.limits c.tree-tree.ensures.value c.in-Some.ensures c.in-Some-look.ensures.value in
    let visible : c.in-Some-look.look.visible ≡ true = not-false c.in-Some-look.look.visible c.if-not-look.false in
    child_told c.args.doc.now (nodes_in c.args.group c.args.doc.now) c.args.place c.in-Some.id c.in-Some-look.look (point_of c.args.spot) c.args.below c.in_ok-pixel.pixel c.compose.result next visible c.in_ok-pixel.ensures c.compose.ensures

pub group_at-returns : goal.group_at-returns
group_at-returns t c = group_told c.args.doc.now c.tree.result.now c.args.group c.child_count-place-end.result c.loop-place.place (point_of c.args.spot) c.loop-place.pixel c.tree.ensures.value c.child_count-place-end.ensures.value (omega arith) c.requires.takes c.loop-place.invariant

pub node_at-group_at-requires : goal.node_at-group_at-requires
node_at-group_at-requires t c =
    let is : takes c.args.id c.args.doc.now ≡ true = takes_read c.args.doc.now c.tree.result.now c.args.id true c.is_group.result c.tree.ensures.value c.is_group.ensures c.if-is_group.true in
    (omega (arith, c.decreases), (c.requires.limits, (is, c.requires.low is)))

pub node_at-pixel-requires : goal.node_at-pixel-requires
node_at-pixel-requires t c = c.requires.layer (takes_read c.args.doc.now c.tree.result.now c.args.id false c.is_group.result c.tree.ensures.value c.is_group.ensures c.if-is_group.false)

pub node_at-returns-else-is_group : goal.node_at-returns-else-is_group
node_at-returns-else-is_group t c =
    let is : takes c.args.id c.args.doc.now ≡ false = takes_read c.args.doc.now c.tree.result.now c.args.id false c.is_group.result c.tree.ensures.value c.is_group.ensures c.if-is_group.false in
    IfOk-weaker c.pixel.result (λ q. q ≡ at (layer_in c.args.id c.args.doc.now) (point_of c.args.spot)) _ (λ q e. layer_told c.args.doc.now c.args.id (point_of c.args.spot) q is e) c.pixel.ensures
