use Rattle.std.proofs.Common.{◌&&◌, ◌∙◌, sym, ap}
use Rattle.slab.specs.Slab.{get}
use Rattle.std.specs.List.{list_all}
use Rattle.entry_queue.specs.Pushed.{Pending, is_shut, is_shut_if}
use Rattle.entry_queue.proofs.Shut.{both_shut}
use Rattle.entry_queue.proofs.queue.Queue.all_shut.Goals as goal

pub returns-then-all_shut : goal.returns-then-all_shut
returns-then-all_shut c =
    let slots = get c.self.inside.entries in
    c.all_shut-then-all_shut.ensures
    ∙ ap (λ b. b && list_all (λ k. is_shut_if (slots k)) c.as_slices.result.1.now) (sym (sym c.all_shut.ensures ∙ c.if-all_shut.true))
    ∙ both_shut slots c.as_slices.result.0.now c.as_slices.result.1.now c.self.inside.keys.items c.as_slices.ensures.items
    ∙ ap (λ (q : Pending). list_all is_shut q.left) c.self.view_is

pub returns-else-all_shut : goal.returns-else-all_shut
returns-else-all_shut c =
    let slots = get c.self.inside.entries in
    c.if-all_shut.false
    ∙ ap (λ b. b && list_all (λ k. is_shut_if (slots k)) c.as_slices.result.1.now) (sym (sym c.all_shut.ensures ∙ c.if-all_shut.false))
    ∙ both_shut slots c.as_slices.result.0.now c.as_slices.result.1.now c.self.inside.keys.items c.as_slices.ensures.items
    ∙ ap (λ (q : Pending). list_all is_shut q.left) c.self.view_is
