use Rattle.std.proofs.Common.{◌≡◌, ◌<◌, ◌+◌, ◌*◌, length, None, refl, ◌∙◌, ap, arith}
use Rattle.std.specs.Prelude.{pos, nat_abs, ◌<ℤ◌}
use Rattle.std.specs.FinMap as map
use borrow.Author.Differences.{ints}
use Rattle.std.proofs.lemmas.List.{get_or_read_under}
use Rattle.frame_core.specs.Frames.{Scene}
use Rattle.frame_core.specs.Plies.{pixels_in}
use Rattle.frame_core.proofs.PlacedTiles.{under_key}
use Rattle.frame_core.proofs.frame.Frame.cell.Goals as goal

pub returns : goal.returns
returns c =
    let width : c.self.inside.width ≡ c.args.self.now.width = ap (λ (s : Scene). s.width) c.self.view_is in
    let height : c.self.inside.height ≡ c.args.self.now.height = ap (λ (s : Scene). s.height) c.self.view_is in
    let right : c.args.key.col <ℤ pos 32 = omega (arith, ints, width, c.self.invariant.scene.columns) in
    let place : c.place.result ≡ 32 * nat_abs c.args.key.row + nat_abs c.args.key.col = omega (arith, ints, c.place.ensures) in
    let inside : c.place.result < length c.self.inside.tiles.items = omega (arith, ints, width, height, place, c.self.invariant.places) in
    ap pixels_in (c.as_ref.ensures.value
    ∙ get_or_read_under c.self.inside.tiles.items c.place.result (length c.self.inside.tiles.items) c.index.result.now None c.index.ensures inside refl)
    ∙ under_key c.self.inside.tiles.items c.args.key c.place.result c.requires.left right c.requires.top place
    ∙ ap (λ (s : Scene). map.get s.tiles c.args.key) c.self.view_is
