use Rattle.std.specs.Prelude.{◌≡◌, ◌<◌, ◌-◌, ◌^◌, length, true}
use Rattle.std.proofs.Common.{ap, sym, ◌∙◌, subst}
use Rattle.doc_model.specs.Lawful.{may_follow}
use Rattle.doc_model.specs.Strokes.{entries}
use Rattle.machine_model.specs.State.{State}
use Rattle.desk_state.proofs.Feeding.{queue_takes, feed_keeps}
use Rattle.desk_events.proofs.machine.Machine.feed.Goals as goal

pub push-requires : goal.push-requires
push-requires c = queue_takes _ c.args.command.now c.self.invariant (ap (λ (s : State). may_follow (entries s.fed) c.args.command.now) c.self.view_is ∙ c.requires.lawful)

pub invariant_of-self-2 : goal.invariant_of-self-2
invariant_of-self-2 c = rw (c.push-2.ensures, c.make_room.ensures.items, c.in_ok-push.ensures.ok)
    (feed_keeps _ c.args.command.now c.self.invariant (ap (λ (s : State). may_follow (entries s.fed) c.args.command.now) c.self.view_is ∙ c.requires.lawful) (subst (λ (s : State). length s.fed < 2 ^ 32 - 1) (sym c.self.view_is) c.requires.few))

pub push-requires-2-clause-lawful : goal.push-requires-2-clause-lawful
push-requires-2-clause-lawful c = subst (λ cs. may_follow (entries cs) c.args.command.now ≡ true) (sym c.make_room.ensures.items) (ap (λ (s : State). may_follow (entries s.fed) c.args.command.now) c.self.view_is ∙ c.requires.lawful)
