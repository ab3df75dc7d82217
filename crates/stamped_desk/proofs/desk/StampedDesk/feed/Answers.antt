use Rattle.stamped_desk.proofs.Drawing.{feed_drawn}
use Rattle.stamped_desk.proofs.desk.StampedDesk.feed.Goals as goal

pub invariant_of-self : goal.invariant_of-self
invariant_of-self g c = feed_drawn c.self.inside.desk c.feed.new.self c.args.command.now c.self.inside.stamps c.feed.result c.feed.ensures.ok c.feed.ensures.err c.self.invariant
