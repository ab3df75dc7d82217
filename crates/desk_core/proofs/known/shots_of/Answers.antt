use Rattle.std.proofs.Common.{arith, refl, get_or}
use Rattle.desk_core.proofs.Shots.{shots_more}
use Rattle.desk_core.proofs.known.shots_of.Goals as goal

pub loop-group-preserved : goal.loop-group-preserved
loop-group-preserved c = (
  omega (arith, c.in_ok-push.ensures.len, c.loop-group.invariant.0),
  λ p h. shots_more c.args.caches.now c.args.groups.now c.loop-group.shots.items c.push.new.self.items c.loop-group.group-index (get_or c.args.groups.now c.loop-group.group-index 0) c.in_ok-shot_of.field-0 p (omega arith) c.loop-group.invariant.0 refl c.in_ok-push.ensures.items (c.loop-group.invariant.1 p h) (c.in_ok-shot_of.ensures p h),
)
