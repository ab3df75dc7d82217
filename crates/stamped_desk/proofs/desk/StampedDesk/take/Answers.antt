use Rattle.std.proofs.Common.{Ok, ap}
use Rattle.stamped_desk.proofs.Drawing.{taken_drawn, stamped_drawn}
use Rattle.stamped_desk.proofs.desk.StampedDesk.take.Goals as goal

pub invariant_of-self-2 : goal.invariant_of-self-2
invariant_of-self-2 g c = stamped_drawn c.take.new.self c.self.inside.stamps c.stamp-stamp.new.self c.in_ok-taken.taken c.stamp-stamp.result c.stamp-stamp.ensures.made c.stamp-stamp.ensures.none
    (taken_drawn c.self.inside.desk c.take.new.self _ _ c.take.result c.self.inside.stamps c.self.invariant c.take.ensures.paint c.take.ensures.walk c.take.ensures.did c.take.ensures.idle c.take.ensures.settled c.in_ok-taken.taken c.in_ok-taken.was)

pub returns-clause-last : goal.returns-clause-last
returns-clause-last g c = rw (← c.self.view_is) (λ t e. c.in_ok-taken.ensures.last t (ap Ok e))
