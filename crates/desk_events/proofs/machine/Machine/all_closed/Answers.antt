use Rattle.std.proofs.Common.{◌≡◌, ◌∙◌, subst}
use Rattle.std.specs.List.{list_all}
use Rattle.doc_model.specs.Feeding.{is_closed_entry}
use Rattle.doc_model.specs.Strokes.{entries}
use Rattle.machine_model.specs.State.{State}
use Rattle.entry_queue.proofs.Shut.{closed_all}
use Rattle.desk_events.proofs.machine.Machine.all_closed.Goals as goal

pub returns : goal.returns
returns c = subst (λ (s : State). c.all_shut.result ≡ list_all is_closed_entry (entries s.fed)) c.self.view_is
    (c.all_shut.ensures ∙ closed_all c.self.inside.fed.items c.self.inside.queue c.self.invariant.queue)
