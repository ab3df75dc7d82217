use Rattle.std.proofs.Common.{◌≡◌, ◌∙◌, ◌*◌, ap, to_z, of_z, w32, arith}
use borrow.Author.Differences.{ints}
use Rattle.whole_tiles.proofs.Circles.{outside}
use Rattle.whole_tiles.proofs.circle.is_reached.Goals as goal

pub returns : goal.returns
returns c =
    let x : to_z w32 (of_z w32 c.args.x) ≡ c.args.x = omega (arith, ints) in
    let y : to_z w32 (of_z w32 c.args.y) ≡ c.args.y = omega (arith, ints) in
    outside c.args.key c.args.x c.args.y c.args.r c.from_corner.result c.from_corner-2.result c.left.result c.top.result c.gap-across.result c.gap-down.result c.rect-tile.result
    c.rect-tile.ensures (c.from_corner.ensures.value ∙ x) (c.from_corner-2.ensures.value ∙ y) c.left.ensures.value c.top.ensures.value c.gap-across.ensures.apart c.gap-down.ensures.apart
    c.square.result c.square-2.result c.square-3.result c.square.ensures.value c.square-2.ensures.value (c.square-3.ensures.value ∙ ap (λ n. n * n) c.from.ensures)
