use Rattle.stamped_desk.proofs.Drawing.{settles_draws}
use Rattle.stamped_desk.proofs.desk.StampedDesk.paint_small.Goals as goal

pub invariant_of-self : goal.invariant_of-self
invariant_of-self g c = settles_draws c.self.inside.desk c.paint_small.new.self c.self.inside.stamps c.paint_small.ensures.runs c.self.invariant
