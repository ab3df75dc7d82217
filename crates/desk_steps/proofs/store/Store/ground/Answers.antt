use Rattle.std.proofs.Common.{sym, ap, ◌∙◌}
use Rattle.doc_model.specs.Layers.{Layer}
use Rattle.paint_device.specs.Seen.{layer_of}
use Rattle.paint_device.proofs.Shown.{default-layer_of}
use Rattle.desk_steps.specs.Documents.{doc_in}
use Rattle.desk_steps.specs.Archives.{Archive}
use Rattle.desk_steps.proofs.Archived.{layer_is}
use Rattle.desk_steps.proofs.store.Store.ground.Goals as goal

pub returns-in-Some : goal.returns-in-Some
returns-in-Some c = c.ground.ensures ∙ sym (default-layer_of c.in-Some.device.now)
    ∙ ap (λ (l : Layer). l.default_pixel) (sym (layer_is c.args.layer (doc_in c.self.inside.doc) c.args.self.now.present (layer_of c.in-Some.device.now) (ap (λ (a : Archive). a.present) c.self.view_is) c.in-Some.ensures.some))
