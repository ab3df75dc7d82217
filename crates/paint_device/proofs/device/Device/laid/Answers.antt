use Rattle.std.proofs.Common.{◌≡◌, sym, ap, ◌∙◌, replicate}
use Rattle.memento_core.specs.Planes.{tile_under}
use Rattle.paint_device.specs.Sheets.{Sheet, tile_or}
use Rattle.paint_device.proofs.device.Device.laid.Goals as goal

pub returns-in_ok-plain-in-None : goal.returns-in_ok-plain-in-None
returns-in_ok-plain-in-None c =
    let e : tile_or (tile_under c.args.self.now.tiles c.args.block.now.key) c.args.self.now.default_pixel ≡ c.in_ok-plain-in-None.field-0 =
    ap (λ o. tile_or o c.args.self.now.default_pixel) (ap (tile_under c.args.self.now.tiles) (sym c.key.ensures.value) ∙ sym c.in-None.ensures)
    ∙ ap (replicate 4096) (sym (ap (λ (s : Sheet). s.default_pixel) c.self.view_is)) ∙ sym c.in_ok-plain-in-None.ensures in
    rw e c.with_region-in-None-2.ensures
