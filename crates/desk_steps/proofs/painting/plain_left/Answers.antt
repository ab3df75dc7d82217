use Rattle.std.proofs.Common.{◌≡◌, None, ap, sym, ◌∙◌, subst, replicate}
use Rattle.std.specs.Prelude.{IfSome}
use Rattle.memento_core.specs.Planes.{tile_under}
use Rattle.tile_core.specs.Pixels.{Pixels}
use Rattle.job_core.specs.Points.{LaysPoints}
use Rattle.paint_device.specs.Sheets.{tile_or}
use Rattle.desk_steps.proofs.painting.plain_left.Goals as goal

pub returns-in-None : goal.returns-in-None
returns-in-None c =
    let none : tile_under c.args.device.now.tiles c.args.work.now.key ≡ None = ap (tile_under c.args.device.now.tiles) (sym c.key.ensures.value) ∙ sym c.in-None.ensures in
    let ground : replicate 4096 c.ground.result ≡ tile_or (tile_under c.args.device.now.tiles c.args.work.now.key) c.args.device.now.default_pixel = ap (replicate 4096) c.ground.ensures ∙ ap (λ o. tile_or o c.args.device.now.default_pixel) (sym none) in
    subst (λ (old : Pixels). IfSome c.plain_on_ground.result (λ d. LaysPoints c.args.work.now old (replicate 4096 d))) ground c.plain_on_ground.ensures
