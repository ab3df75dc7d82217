use Rattle.desk_steps.proofs.WholeTiles.{next_part}
use Rattle.desk_steps.proofs.exchanging.merged.Goals as goal

pub loop-rect-preserved : goal.loop-rect-preserved
loop-rect-preserved c = next_part c.args.whole.now c.args.device.now c.loop-rect.tile c.in_ok-tile-2.tile c.as_slice-rect-items.result.now c.loop-rect.rect-index c.rect-item.result c.loop-rect-test.true c.rect-item.is c.in_ok-tile-2.ensures c.loop-rect.invariant
