use Rattle.stamped_desk.proofs.Drawing.{end_drawn}
use Rattle.stamped_desk.proofs.desk.StampedDesk.end.Goals as goal

pub invariant_of-self : goal.invariant_of-self
invariant_of-self g c = end_drawn c.self.inside.desk c.end.new.self c.args.slot.place c.self.inside.stamps c.end.result c.end.ensures.done c.end.ensures.nothing c.self.invariant
