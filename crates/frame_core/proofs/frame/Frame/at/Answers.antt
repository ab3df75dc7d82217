use Rattle.std.proofs.Common.{◌≡◌, ◌%◌, ◌∙◌, ap, arith}
use Rattle.std.specs.Prelude.{pos}
use borrow.Author.Differences.{ints}
use Rattle.pixel_core.specs.Rgba.{clear}
use Rattle.pixel_core.specs.Compose.{on_paper}
use Rattle.geom_core.specs.Areas.{Point, point}
use Rattle.geom_core.specs.Place.{across, down}
use Rattle.tile_core.specs.Pixels.{pixel_of, pixel_or}
use Rattle.frame_core.specs.Frames.{Scene, put_at}
use Rattle.frame_core.proofs.frame.Frame.at.Goals.{in-Some, in-None}
use Rattle.frame_core.proofs.frame.Frame.at.Goals as goal

pub returns : goal.returns
returns c =
    let p : Point = point (pos c.args.x) (pos c.args.y) in
    let col : c.args.x % 64 ≡ across p % 64 = omega (arith, ints) in
    let row : c.args.y % 64 ≡ down p % 64 = omega (arith, ints) in
    let paper : c.self.inside.paper ≡ c.args.self.now.paper = ap (λ (s : Scene). s.paper) c.self.view_is in
    let pixel : c.match-tile.pixel ≡ put_at c.args.self.now p = elim c.match-tile.branch [
      | in-Some w ↦ w.pixel-is ∙ w.pixel.ensures ∙ (λ i. pixel_of w.in-Some.cell.now.pixels (col i) (row i)) ∙ ap (λ o. pixel_or o clear p) w.in-Some.ensures.value
      | in-None w ↦ w.pixel-is ∙ ap (λ o. pixel_or o clear p) w.in-None.ensures.value
    ] in
    c.on_paper.ensures ∙ (λ i. on_paper (pixel i) (paper i))
