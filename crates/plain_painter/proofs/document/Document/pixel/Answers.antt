use Rattle.std.proofs.Common.{◌≡◌, sym, ap, ◌∙◌, subst, IfOk}
use Rattle.doc_model.specs.Layers.{at}
use Rattle.plain_painter.specs.Steps.{point_of, layer_after}
use Rattle.plain_painter.proofs.Filling.{layer_filled}
use Rattle.plain_painter.proofs.document.Document.pixel.Goals as goal

pub returns : goal.returns
returns c = subst (λ l. IfOk c.pixel_after.result (λ p. p ≡ at l (point_of c.args.spot))) (ap (layer_after c.args.id) c.deref.ensures.value ∙ sym (layer_filled c.self.inside.tree c.args.self.now c.self.inside.steps.items c.args.id c.self.view_is c.requires)) c.pixel_after.ensures
