use Rattle.std.proofs.Common.{◌≡◌, ◌∙◌, arith, to_z, of_z, w32}
use borrow.Author.Differences.{ints}
use Rattle.geom_core.specs.Areas.{holds, point, world}
use Rattle.brush_path.proofs.Squares.{world_holds}
use Rattle.brush_path.proofs.cells.ends_of.Goals as goal

pub tile_of-requires-2 : goal.tile_of-requires-2
tile_of-requires-2 c =
    let x : to_z w32 (of_z w32 c.last_from-right.result) ≡ c.last_from-right.result = omega (arith, ints) in
    let y : to_z w32 (of_z w32 c.last_from-bottom.result) ≡ c.last_from-bottom.result = omega (arith, ints) in
    (λ i. holds world (point (x i) (y i))) ∙ world_holds c.last_from-right.result c.last_from-bottom.result c.last_from-right.ensures.low c.last_from-right.ensures.high c.last_from-bottom.ensures.low c.last_from-bottom.ensures.high
