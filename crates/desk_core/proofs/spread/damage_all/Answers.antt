use Rattle.std.proofs.Common.{arith}
use Rattle.desk_core.proofs.Growing.{rect_more}
use Rattle.desk_core.proofs.spread.damage_all.Goals as goal

pub loop-rect-preserved : goal.loop-rect-preserved
loop-rect-preserved c = rect_more c.args.rects.now c.loop-rect.rect-index c.rect-item.result c.args.damage.now c.loop-rect.damage c.add.new.self (omega arith) c.rect-item.is c.add.ensures c.loop-rect.invariant
