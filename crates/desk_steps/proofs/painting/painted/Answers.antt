use Rattle.std.proofs.Common.{◌≡◌, sym, subst, replicate}
use Rattle.std.proofs.lemmas.Result.{IfOk-weaker}
use Rattle.geom_core.specs.Keys.{IsWorldKey}
use Rattle.memento_core.specs.Planes.{tile_under}
use Rattle.paint_device.specs.Sheets.{tile_or}
use Rattle.desk_steps.specs.Tiles.{IsPaintedOn}
use Rattle.desk_steps.proofs.Lain.{stands_at}
use Rattle.desk_steps.proofs.Painted.{points_laid}
use Rattle.desk_steps.proofs.painting.painted.Goals as goal

pub plain_tile-requires : goal.plain_tile-requires
plain_tile-requires c = subst IsWorldKey (sym c.key.ensures.value) c.key.ensures.known.world

pub returns-in-Some : goal.returns-in-Some
returns-in-Some c =
    let w = c.args.work.now in
    let s = c.args.device.now in
    IfOk-weaker c.plain_tile.result (λ t. t ≡ replicate 4096 c.in-Some.pixel) (IsPaintedOn w s)
    (λ t e. subst (IsPaintedOn w s) (sym e) (points_laid w s (tile_or (tile_under s.tiles w.key) s.default_pixel) (replicate 4096 c.in-Some.pixel) (stands_at s w.key) c.in-Some.ensures))
    c.plain_tile.ensures
