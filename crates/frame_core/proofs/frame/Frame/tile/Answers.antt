use Rattle.std.proofs.Common.{◌≡◌, ◌<◌, length, None, refl, ◌∙◌, ap, arith}
use Rattle.std.specs.Prelude.{pos}
use Rattle.std.specs.FinMap as map
use Rattle.std.proofs.lemmas.List.{get_or_read_under}
use Rattle.geom_core.specs.Areas.{point}
use Rattle.geom_core.specs.Grid.{key_of}
use Rattle.frame_core.specs.Frames.{Scene}
use Rattle.frame_core.specs.Plies.{pixels_in}
use Rattle.frame_core.proofs.PlacedTiles.{tile_at}
use Rattle.frame_core.proofs.frame.Frame.tile.Goals as goal

pub returns-clause-value : goal.returns-clause-value
returns-clause-value c =
    let width : c.self.inside.width ≡ c.args.self.now.width = ap (λ (s : Scene). s.width) c.self.view_is in
    let height : c.self.inside.height ≡ c.args.self.now.height = ap (λ (s : Scene). s.height) c.self.view_is in
    let inside : c.place.result < length c.self.inside.tiles.items = omega (arith, width, height, c.place.ensures, c.self.invariant.places) in
    ap pixels_in (c.as_ref.ensures.value
    ∙ get_or_read_under c.self.inside.tiles.items c.place.result (length c.self.inside.tiles.items) c.index.result.now None c.index.ensures inside refl)
    ∙ tile_at c.self.inside.tiles.items c.args.x c.args.y c.place.result (omega (arith, width, c.self.invariant.scene.columns)) c.place.ensures
    ∙ ap (λ (s : Scene). map.get s.tiles (key_of (point (pos c.args.x) (pos c.args.y)))) c.self.view_is
