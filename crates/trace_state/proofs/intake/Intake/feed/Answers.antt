use Rattle.std.proofs.Common.{rules, ◌≡◌, true}
use Rattle.doc_model.specs.Lawful.{may_follow}
use Rattle.doc_model.specs.Strokes.{entries}
use Rattle.trace_state.proofs.Intakes.{queue_takes, feed_keeps}
use Rattle.trace_state.proofs.intake.Intake.feed.Goals as goal

pub push-requires : goal.push-requires
push-requires c =
    let may : may_follow (entries c.self.inside.log.items) c.args.command.now ≡ true = search rules in
    queue_takes c.self.inside.log.items c.self.inside.queue c.args.command.now c.self.invariant may

pub invariant_of-self-2 : goal.invariant_of-self-2
invariant_of-self-2 c =
    let may : may_follow (entries c.self.inside.log.items) c.args.command.now ≡ true = search rules in
    rw (c.push-2.ensures, c.make_room.ensures.items, c.in_ok-push.ensures.ok) (feed_keeps c.self.inside.log.items c.self.inside.queue c.args.command.now c.self.invariant may c.requires)
