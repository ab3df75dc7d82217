use Rattle.std.proofs.Common.{ap, ◌∙◌}
use Rattle.std.specs.Option.{unwrap_or}
use Rattle.doc_model.specs.Readers.{parent}
use Rattle.machine_model.specs.State.{State}
use Rattle.machine_model.specs.Groups.{parent_of}
use Rattle.doc_model.proofs.Natural.{parent_each}
use Rattle.desk_events.proofs.machine.Machine.group_of.Goals as goal

pub returns : goal.returns
returns c = c.unwrap_or.ensures ∙ ap (λ o. unwrap_or o 0) (c.parent.ensures.value ∙ ap (parent c.args.layer 0) c.tree.ensures.value ∙ parent_each (λ id layer. tt) c.args.layer 0 c.self.inside.store.present) ∙ ap (λ (s : State). parent_of c.args.layer s.present) c.self.view_is
