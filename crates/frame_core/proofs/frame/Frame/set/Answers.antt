use Rattle.std.proofs.Common.{◌≡◌, ◌<◌, ◌∙◌, ◌+◌, ◌*◌, ap, arith, length}
use Rattle.std.specs.Prelude.{pos, nat_abs, ◌<ℤ◌}
use borrow.Author.Differences.{ints}
use Rattle.frame_core.specs.Frames.{Scene, scene, with_put}
use Rattle.frame_core.proofs.PlacedTiles.{put_tile}
use Rattle.frame_core.proofs.frame.Frame.set.Goals as goal

pub returns : goal.returns
returns c =
    let width : c.self.inside.width ≡ c.args.self.now.width = ap (λ (s : Scene). s.width) c.self.view_is in
    let height : c.self.inside.height ≡ c.args.self.now.height = ap (λ (s : Scene). s.height) c.self.view_is in
    let right : c.args.key.col <ℤ pos 32 = omega (arith, ints, width, c.self.invariant.scene.columns) in
    let place : c.place.result ≡ 32 * nat_abs c.args.key.row + nat_abs c.args.key.col = omega (arith, ints, c.place.ensures) in
    let small : c.place.result < length c.self.inside.tiles.items = omega (arith, ints, width, height, place, c.self.invariant.places) in
    ap (scene c.self.inside.width c.self.inside.height c.self.inside.paper) (put_tile c.self.inside.tiles.items c.args.key c.place.result c.args.cell c.requires.left right c.requires.top place small)
    ∙ ap (λ (s : Scene). with_put s c.args.key c.args.cell.pixels) c.self.view_is
