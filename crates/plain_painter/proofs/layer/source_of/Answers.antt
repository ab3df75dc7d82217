use Rattle.std.proofs.Common.{◌≡◌, to_z, of_z, w32, arith}
use Rattle.std.specs.Prelude.{◌-ℤ◌}
use borrow.Author.Differences.{ints}
use Rattle.geom_core.specs.Areas.{point}
use Rattle.plain_painter.proofs.Layered.{IsBack, back_in_world}
use Rattle.plain_painter.proofs.layer.source_of.Goals as goal

pub overflow_sub-result : goal.overflow_sub-result
overflow_sub-result c =
    let b : IsBack (point c.args.spot.x c.args.spot.y) c.args.dx c.args.dy = back_in_world c.args.rect c.args.dx c.args.dy (point c.args.spot.x c.args.spot.y) c.requires.job_sound c.requires.reached in
    omega (arith, ints, b.left, b.right)

pub overflow_sub-result-2 : goal.overflow_sub-result-2
overflow_sub-result-2 c =
    let b : IsBack (point c.args.spot.x c.args.spot.y) c.args.dx c.args.dy = back_in_world c.args.rect c.args.dx c.args.dy (point c.args.spot.x c.args.spot.y) c.requires.job_sound c.requires.reached in
    omega (arith, ints, b.top, b.bottom)

pub returns : goal.returns
returns c =
    let b : IsBack (point c.args.spot.x c.args.spot.y) c.args.dx c.args.dy = back_in_world c.args.rect c.args.dx c.args.dy (point c.args.spot.x c.args.spot.y) c.requires.job_sound c.requires.reached in
    let x : to_z w32 (of_z w32 (to_z w32 (of_z w32 c.args.spot.x) -ℤ to_z w32 (of_z w32 c.args.dx))) ≡ c.args.spot.x -ℤ c.args.dx = omega (arith, ints, b.left, b.right) in
    let y : to_z w32 (of_z w32 (to_z w32 (of_z w32 c.args.spot.y) -ℤ to_z w32 (of_z w32 c.args.dy))) ≡ c.args.spot.y -ℤ c.args.dy = omega (arith, ints, b.top, b.bottom) in
    λ i. point (x i) (y i)
