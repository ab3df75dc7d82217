use Rattle.std.proofs.Common.{◌≡◌, true, false, ap, sym, ◌∙◌, not, ◌&&◌}
use Rattle.doc_model.specs.Changes.{there, takes}
use Rattle.doc_model.proofs.PaintTests.{paints_is}
use Rattle.trace_state.specs.Histories.{Course}
use Rattle.trace_state.specs.Trees.{paints}
use Rattle.trace_state.proofs.history.History.paints.Goals as goal

pub returns-then-has : goal.returns-then-has
returns-then-has c =
    let tree = c.self.inside.tree in
    let has : there c.args.layer tree ≡ true = sym c.has.ensures ∙ c.if-has.true in
    ap not c.is_group.ensures ∙ ap (λ b. b && not (takes c.args.layer tree)) (sym has) ∙ paints_is c.args.layer tree c.node_count-count.ensures.limits.tree
    ∙ ap (λ (h : Course). paints c.args.layer h.tree) c.self.view_is

pub returns-else-has : goal.returns-else-has
returns-else-has c =
    let tree = c.self.inside.tree in
    let has : there c.args.layer tree ≡ false = sym c.has.ensures ∙ c.if-has.false in
    c.if-has.false ∙ ap (λ b. b && not (takes c.args.layer tree)) (sym has) ∙ paints_is c.args.layer tree c.node_count-count.ensures.limits.tree
    ∙ ap (λ (h : Course). paints c.args.layer h.tree) c.self.view_is
