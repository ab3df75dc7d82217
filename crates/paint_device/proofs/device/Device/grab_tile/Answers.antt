use Rattle.std.proofs.Common.{◌≡◌, [], ◌∷◌}
use Rattle.std.proofs.lemmas.Result.{IfOk-weaker}
use Rattle.tile_core.specs.Shots.{with_seen}
use Rattle.paint_device.specs.Grabs.{Grabs}
use Rattle.paint_device.proofs.Grabbed.{grabs_skip, grabs_put_as}
use Rattle.paint_device.proofs.device.Device.grab_tile.Goals as goal

pub returns-in-Some : goal.returns-in-Some
returns-in-Some c = IfOk-weaker c.put.result (λ _. c.put.new.self ≡ with_seen c.args.shot.now c.args.key c.in-Some.tile.now) (λ _. Grabs c.args.self.now c.args.shot.now c.put.new.self (c.args.key ∷ []))
    (λ _ e. grabs_put_as c.args.self.now c.args.shot.now c.put.new.self c.args.key c.in-Some.tile.now e c.in-Some.ensures) c.put.ensures.ok

pub returns-in-None : goal.returns-in-None
returns-in-None c = grabs_skip c.args.self.now c.args.shot.now c.args.key c.in-None.ensures
