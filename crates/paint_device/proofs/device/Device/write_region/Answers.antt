use Rattle.std.proofs.Common.{◌≡◌, Some}
use Rattle.std.proofs.lemmas.Result.{IfOk-weaker}
use Rattle.paint_device.specs.Sheets.{with_under, WritesBlock}
use Rattle.paint_device.proofs.Writes.{writes_block_as}
use Rattle.paint_device.proofs.device.Device.write_region.Goals as goal

pub returns-clause-ok : goal.returns-clause-ok
returns-clause-ok c = IfOk-weaker c.put.result (λ _. c.put.new.self ≡ with_under c.args.self.now c.key.result (Some c.in_ok-tile.tile)) (λ _. WritesBlock c.args.self.now c.put.new.self c.args.block.now)
    (λ _ e. writes_block_as c.args.self.now c.put.new.self c.args.block.now c.key.result c.in_ok-tile.tile c.key.ensures.value e c.key.ensures.known c.in_ok-tile.ensures) c.put.ensures.ok
