use Rattle.std.proofs.Common.{sym, ap, ◌∙◌, subst}
use Rattle.geom_core.specs.Exchanged.{HasTouched}
use Rattle.memento_core.specs.Revisions.{keys_in}
use Rattle.memento_core.proofs.Exchanging.{keys_in-noted}
use Rattle.memento_core.proofs.revision.Revision.touched.Goals as goal

pub returns : goal.returns
returns g c = subst (λ s. HasTouched s c.touched.result) (c.self.invariant.keys_are ∙ sym (keys_in-noted c.self.inside.notes.items) ∙ ap keys_in c.self.view_is) c.touched.ensures
