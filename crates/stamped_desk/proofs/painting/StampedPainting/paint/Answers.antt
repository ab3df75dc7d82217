use Rattle.std.proofs.Common.{sym, subst}
use Rattle.std.specs.Prelude.{IfSome}
use Rattle.stamped_desk.specs.Stamped.{AreMadeOf, batch, ticket_of}
use Rattle.stamped_desk.proofs.Drawing.{job_made}
use Rattle.stamped_desk.proofs.painting.StampedPainting.paint.Goals as goal

pub of_job-requires : goal.of_job-requires
of_job-requires g c =
    subst (λ o. IfSome o (λ s. AreMadeOf s c.self.inside.since (batch c.self.inside.slot c.in_ok-tiles.tiles.items))) (sym c.copy_of-stamp.ensures)
    (job_made c.self.inside.stamp (ticket_of c.self.inside.slot c.self.inside.stroke c.self.inside.job c.self.inside.since c.self.inside.painting) c.in_ok-tiles.tiles.items c.self.invariant
    c.in_ok-tiles.ensures.made)
