use Rattle.std.proofs.Common.{arith}
use Rattle.paint_device.proofs.Grabbed.{grabs_rect, grabbed_all, grabbed_tiles}
use Rattle.paint_device.proofs.device.Device.grab.Goals as goal

pub loop-rect-preserved : goal.loop-rect-preserved
loop-rect-preserved c = grabs_rect c.args.self.now c.in_ok-shot.shot c.loop-rect.shot c.grab_into.new.shot c.args.rects.now c.loop-rect.rect-index c.rect-item.result (omega arith) c.rect-item.is c.loop-rect.invariant c.in_ok-grab_into.ensures

pub returns-clause-pixels : goal.returns-clause-pixels
returns-clause-pixels c = grabbed_all c.args.self.now c.args.rects.now c.ground-default_pixel.result c.in_ok-shot.shot c.loop-rect.shot c.loop-rect.rect-index c.ground-default_pixel.ensures c.in_ok-shot.ensures c.loop-rect-test.false c.loop-rect.auto.rect-index-end c.loop-rect.invariant

pub returns-clause-tiles : goal.returns-clause-tiles
returns-clause-tiles c = grabbed_tiles c.args.self.now c.args.rects.now c.ground-default_pixel.result c.in_ok-shot.shot c.loop-rect.shot c.loop-rect.rect-index c.ground-default_pixel.ensures c.in_ok-shot.ensures c.loop-rect-test.false c.loop-rect.auto.rect-index-end c.loop-rect.invariant
