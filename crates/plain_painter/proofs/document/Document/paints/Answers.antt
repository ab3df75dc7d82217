use Rattle.std.proofs.Common.{◌≡◌, true, false, ◌&&◌, not, ap, sym, ◌∙◌}
use Rattle.doc_model.specs.Changes.{there, takes}
use Rattle.doc_model.proofs.PaintTests.{paints_is}
use Rattle.plain_painter.proofs.Filling.{some_filled}
use Rattle.plain_painter.proofs.document.Document.paints.Goals as goal

pub returns-then-has : goal.returns-then-has
returns-then-has c =
    let there_is : true ≡ there c.args.id c.self.inside.tree = sym c.if-has.true ∙ c.has.ensures in
    ap not c.is_group.ensures ∙ ap (λ b. b && not (takes c.args.id c.self.inside.tree)) there_is ∙ paints_is c.args.id c.self.inside.tree c.node_count-count.ensures.limits.tree ∙ some_filled c.self.inside.tree c.args.self.now c.self.inside.steps.items c.args.id c.self.view_is

pub returns-else-has : goal.returns-else-has
returns-else-has c =
    let absent : false ≡ there c.args.id c.self.inside.tree = sym c.if-has.false ∙ c.has.ensures in
    c.if-has.false ∙ ap (λ b. b && not (takes c.args.id c.self.inside.tree)) absent ∙ paints_is c.args.id c.self.inside.tree c.node_count-count.ensures.limits.tree ∙ some_filled c.self.inside.tree c.args.self.now c.self.inside.steps.items c.args.id c.self.view_is
