use Rattle.std.proofs.Common.{ap, sym, ◌∙◌, refl}
use Rattle.std.specs.List.{position_or_len}
use Rattle.update_queue.specs.Waiting.{avoids}
use Rattle.update_queue.proofs.Elements.{popped}
use Rattle.update_queue.proofs.Keeping.{queue_removed, taken_is, left_is}
use Rattle.update_queue.proofs.updates.Updates.take.Goals as goal

pub invariant_of-self : goal.invariant_of-self
invariant_of-self c = (c.self.invariant.0, queue_removed c.self.inside.canvas c.self.inside.patches.items c.pop_at.new.self.items c.first_free-i.result c.self.invariant.1 (popped c.pop_at.result c.self.inside.patches.items c.first_free-i.result c.self.inside.patches c.pop_at.new.self refl c.pop_at.ensures.value c.pop_at.ensures.items c.pop_at.ensures.absent), tt)

pub returns-in-Some-clause-patch : goal.returns-in-Some-clause-patch
returns-in-Some-clause-patch c =
    let at = c.first_free-i.ensures ∙ ap (position_or_len (avoids c.args.running.now)) c.as_slice.ensures.value in
    sym c.in-Some.is ∙ taken_is c.self.inside.canvas c.args.running.now c.self.inside.patches.items c.first_free-i.result c.pop_at.result c.args.self.now c.self.view_is at c.pop_at.ensures.value

pub returns-in-Some-clause-left : goal.returns-in-Some-clause-left
returns-in-Some-clause-left c =
    let at = c.first_free-i.ensures ∙ ap (position_or_len (avoids c.args.running.now)) c.as_slice.ensures.value in
    let is = popped c.pop_at.result c.self.inside.patches.items c.first_free-i.result c.self.inside.patches c.pop_at.new.self refl c.pop_at.ensures.value c.pop_at.ensures.items c.pop_at.ensures.absent in
    left_is c.self.inside.canvas c.args.running.now c.self.inside.patches.items c.pop_at.new.self.items c.first_free-i.result c.args.self.now c.self.view_is at is

pub returns-in-None-clause-patch : goal.returns-in-None-clause-patch
returns-in-None-clause-patch c =
    let at = c.first_free-i.ensures ∙ ap (position_or_len (avoids c.args.running.now)) c.as_slice.ensures.value in
    sym c.in-None.is ∙ taken_is c.self.inside.canvas c.args.running.now c.self.inside.patches.items c.first_free-i.result c.pop_at.result c.args.self.now c.self.view_is at c.pop_at.ensures.value

pub returns-in-None-clause-left : goal.returns-in-None-clause-left
returns-in-None-clause-left c =
    let at = c.first_free-i.ensures ∙ ap (position_or_len (avoids c.args.running.now)) c.as_slice.ensures.value in
    let is = popped c.pop_at.result c.self.inside.patches.items c.first_free-i.result c.self.inside.patches c.pop_at.new.self refl c.pop_at.ensures.value c.pop_at.ensures.items c.pop_at.ensures.absent in
    left_is c.self.inside.canvas c.args.running.now c.self.inside.patches.items c.pop_at.new.self.items c.first_free-i.result c.args.self.now c.self.view_is at is
