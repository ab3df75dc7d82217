use Rattle.paint_device.proofs.Kept.{empty_kept}
use Rattle.paint_device.proofs.device.Device.new.Goals as goal

pub invariant_of-result : goal.invariant_of-result
invariant_of-result c = empty_kept c.args.default_pixel c.new.result c.new.ensures.empty
