use Rattle.std.proofs.Common.{sym, ap, ◌∙◌}
use Rattle.std.specs.FinMap as map
use Rattle.std.specs.FinSet as set
use Rattle.memento_core.proofs.Exchanging.{has-noted}
use Rattle.memento_core.proofs.revision.Revision.has.Goals as goal

pub returns : goal.returns
returns g c = c.has.ensures ∙ ap (λ s. set.contains s c.args.key) c.self.invariant.keys_are ∙ sym (has-noted c.self.inside.notes.items c.args.key) ∙ ap (λ f. map.contains_key f c.args.key) c.self.view_is
