use Rattle.std.proofs.Common.{◌≡◌, suc, length, sym, ap, ◌∙◌, subst, arith}
use Rattle.geom_core.proofs.Tests.{length_more}
use Rattle.host_pieces.specs.Jobs.{AreFirst}
use Rattle.host_pieces.proofs.PaintedJobs.{first_more}
use Rattle.host_pieces.proofs.job_piece.paint_rest.Goals as goal

pub loop-i-preserved : goal.loop-i-preserved
loop-i-preserved c =
    let n : length c.push.new.self.items ≡ suc (length c.loop-i.made.items) = ap (λ ks. length ks) c.in_ok-push.ensures.items ∙ length_more c.loop-i.made.items c.in_ok-paint_like.field-0 in
    record {
      first = λ h. subst (AreFirst c.args.painting.now) (sym c.in_ok-push.ensures.items)
          (first_more c.args.painting.now c.loop-i.made.items c.loop-i.i c.in_ok-paint_like.field-0 c.loop-i.invariant.so_far c.in_ok-paint_like.ensures.of c.in_ok-paint_like.ensures.key (c.loop-i.invariant.first h));
      so_far = omega arith;
      count = omega arith;
    }
