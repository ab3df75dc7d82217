use Rattle.geom_core.specs.Grid.{keys_of}
use Rattle.paint_device.proofs.Grabbed.{grabs_key}
use Rattle.paint_device.proofs.device.Device.grab_into.Goals as goal

pub loop-i-preserved : goal.loop-i-preserved
loop-i-preserved c = grabs_key c.args.self.now c.args.shot.now c.loop-i.shot c.grab_tile.new.shot (keys_of c.args.rect.now) c.loop-i.i c.tile_at.result c.tile_at.ensures.value c.loop-i.invariant c.in_ok-grab_tile.ensures
