use Rattle.live_view.proofs.Keeping.{was_ok, shows_next, stands_after}
use Rattle.live_view.proofs.press.Press.show.Goals as goal

pub publish_as-writer-requires : goal.publish_as-writer-requires
publish_as-writer-requires g c next is views kept at = (tt, shows_next g.K.Naming.book c.args.self.writer.desk.shown.value next c.args.self.line _ c.args.self.stage c.args.self.count c.requires.marked c.requires.stands is, tt)

pub returns-in-Ok-clause-stands : goal.returns-in-Ok-clause-stands
returns-in-Ok-clause-stands g c =
    let values = was_ok c.publish_as-writer.result.1 _ _ _ c.in-Ok.is c.publish_as-writer.ensures.values in
    stands_after g.K.Naming.book c.args.self.writer.desk.shown.value c.publish_as-writer.result.0.desk.shown.value c.args.self.line _ _ c.args.self.stage c.args.self.count c.requires.marked c.requires.stands values.0 values.1
