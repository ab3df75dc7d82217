use Rattle.std.proofs.Common.{◌<◌, Ok, refl, ap, ◌∙◌, arith}
use Rattle.desk_state.specs.After.{busy_walker}
use Rattle.trace_out.specs.Lent.{walk_of}
use Rattle.trace_out.proofs.Ties.{lent_runs}
use Rattle.trace_out.proofs.Enabling.{walk_takes}
use Rattle.trace_out.proofs.Tiles.{pair_written, pair_lent}
use Rattle.trace_out.proofs.scribe.Scribe.put.Goals as goal

pub unreachable-requires : goal.unreachable-requires
unreachable-requires c = c.publish_walk.ensures.refused (c.in_ok-publish_walk.was ∙ ap Ok c.in-Nothing.is)
    (walk_takes c.args.self.now.desk c.args.slot.place (walk_of c.args.slot c.args.composed.now c.args.published.now) c.args.composed.now c.args.group c.args.key
    (lent_runs c.args.self.now.held c.args.slot.place (busy_walker (walk_of c.args.slot c.args.composed.now c.args.published.now)) c.args.self.now.desk c.requires.lent) refl c.requires.composed c.requires.lacks)

pub returns-clause-goes : goal.returns-clause-goes
returns-clause-goes c =
    pair_written c.args.self.now.held c.args.self.now.desk c.publish_walk.new.self c.args.slot c.args.composed.now c.args.published.now c.args.group c.args.key c.args.self.now.out.items c.add_line.new.out.items c.requires.lent (omega (arith, c.ranges.group)) c.requires.lacks.world (c.publish_walk.ensures.stored (c.in_ok-publish_walk.was ∙ ap Ok c.in-Stored.is)) c.in_ok-add_line-in-Stored.ensures

pub returns-clause-lent : goal.returns-clause-lent
returns-clause-lent c =
    pair_lent c.args.self.now.held c.args.self.now.desk c.publish_walk.new.self c.args.slot c.args.composed.now c.args.published.now c.note.new.self c.args.group c.args.key c.requires.lent (c.publish_walk.ensures.stored (c.in_ok-publish_walk.was ∙ ap Ok c.in-Stored.is)) c.in_ok-note-in-Stored.ensures.ok
