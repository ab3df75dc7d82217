use Rattle.paint_device.proofs.Kept.{world-view}
use Rattle.paint_device.proofs.device.Device.extent.Goals as goal

pub extent_of-requires : goal.extent_of-requires
extent_of-requires c = world-view c.self.inside.ground c.self.inside.tiles c.self.invariant
