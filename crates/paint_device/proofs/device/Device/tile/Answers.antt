use Rattle.std.proofs.Common.{◌∙◌}
use Rattle.paint_device.proofs.Kept.{tile-view}
use Rattle.paint_device.proofs.device.Device.tile.Goals as goal

pub returns : goal.returns
returns c = rw (← c.self.view_is) (c.tile_in.ensures ∙ tile-view c.self.inside.tiles c.args.key)
