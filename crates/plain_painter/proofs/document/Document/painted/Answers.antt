use Rattle.std.proofs.Common.{◌∙◌, ap, subst}
use Rattle.plain_painter.specs.Documents.{filled}
use Rattle.plain_painter.proofs.Layered.{Laid}
use Rattle.plain_painter.proofs.Filling.{filled_painted}
use Rattle.plain_painter.proofs.document.Document.painted.Goals as goal

pub returns : goal.returns
returns c = ap (λ t. filled t c.in_ok-steps.steps.items) c.copy.ensures
    ∙ filled_painted c.self.inside.tree c.args.self.now c.args.layer c.args.jobs.now c.self.inside.steps.items c.in_ok-steps.steps.items c.self.view_is c.requires.there
    (subst (λ old. Laid c.args.layer old c.args.jobs.now c.in_ok-steps.steps.items) c.deref.ensures.value c.in_ok-steps.ensures.value)
