use Rattle.std.proofs.Common.{◌≡◌, Ok, Err, sym, ap, subst, ◌∙◌}
use Rattle.doc_model.specs.Layers.{plain}
use Rattle.doc_model.specs.Changes.{changed}
use Rattle.plain_painter.proofs.Filling.{Follow, filled_changed, filled_refused}
use Rattle.plain_painter.proofs.document.Document.changed.Goals as goal

pub returns-in-Ok : goal.returns-in-Ok
returns-in-Ok c =
    let made : changed {A = Unit {0}} (λ pixel. tt) c.args.change.now c.self.inside.tree ≡ Ok c.change.new.self = ap (changed {A = Unit {0}} (λ pixel. tt) c.args.change.now) (sym c.copy-tree.ensures) ∙ c.in-Ok.ensures.ok in
    filled_changed c.args.change.now c.self.inside.tree c.change.new.self c.self.inside.steps.items c.in_ok-steps.steps.items made (subst (λ old. Follow c.args.change.now old c.in_ok-steps.steps.items) c.deref.ensures.value c.in_ok-steps.ensures.value) ∙ ap (changed plain c.args.change.now) c.self.view_is

pub returns-in-Err : goal.returns-in-Err
returns-in-Err c =
    let refused : changed {A = Unit {0}} (λ pixel. tt) c.args.change.now c.self.inside.tree ≡ Err c.in-Err.fault = ap (changed {A = Unit {0}} (λ pixel. tt) c.args.change.now) (sym c.copy-tree.ensures) ∙ c.in-Err.ensures.err in
    filled_refused c.args.change.now c.self.inside.tree c.self.inside.steps.items c.in-Err.fault refused ∙ ap (changed plain c.args.change.now) c.self.view_is
