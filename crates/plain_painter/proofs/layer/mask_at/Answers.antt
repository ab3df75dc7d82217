use Rattle.std.proofs.Common.{◌≡◌, ◌≤◌, ◌∙◌, sym, subst, to_z, of_z, w64, arith}
use Rattle.std.specs.Prelude.{◌-ℤ◌, nat_abs, int_le, int_lt, ◌&&◌}
use mir.Syntax.{w16}
use borrow.Author.Differences.{ints}
use Rattle.brush_mask.specs.Mask.{mask}
use Rattle.geom_core.specs.Areas.{right}
use Rattle.geom_core.proofs.Tests.{and_left, and_right}
use Rattle.doc_model.specs.Jobs.{square}
use Rattle.plain_painter.proofs.Layered.{IsNear, near_axis, near_small}
use Rattle.plain_painter.proofs.layer.mask_at.Goals as goal

pub overflow_cast-dx : goal.overflow_cast-dx
overflow_cast-dx c =
    let n : IsNear c.args.spot.x c.args.x c.args.r = near_axis c.args.spot.x c.args.x c.args.r (and_left _ _ c.requires.held) in
    omega (arith, ints, n.low, n.high, c.from.ensures, c.from-2.ensures, c.requires.radius)

pub overflow_cast-dy : goal.overflow_cast-dy
overflow_cast-dy c =
    let n : IsNear c.args.spot.y c.args.y c.args.r = near_axis c.args.spot.y c.args.y c.args.r (and_right (int_le (square c.args.x c.args.y c.args.r).x c.args.spot.x && int_lt c.args.spot.x (right (square c.args.x c.args.y c.args.r))) _ c.requires.held) in
    omega (arith, ints, n.low, n.high, c.from-3.ensures, c.from-4.ensures, c.requires.radius)

pub mask-requires-clause-across : goal.mask-requires-clause-across
mask-requires-clause-across c =
    let n : IsNear c.args.spot.x c.args.x c.args.r = near_axis c.args.spot.x c.args.x c.args.r (and_left _ _ c.requires.held) in
    let d : to_z w16 (of_z w16 (to_z w64 (of_z w64 (to_z w64 (of_z w64 c.from.result) -ℤ to_z w64 (of_z w64 c.from-2.result))))) ≡ (c.args.spot.x -ℤ c.args.x) = omega (arith, ints, n.low, n.high, c.from.ensures, c.from-2.ensures, c.requires.radius) in
    subst (λ z. nat_abs z ≤ 128) (sym d) (near_small c.args.spot.x c.args.x c.args.r n c.requires.radius)

pub mask-requires-clause-down : goal.mask-requires-clause-down
mask-requires-clause-down c =
    let n : IsNear c.args.spot.y c.args.y c.args.r = near_axis c.args.spot.y c.args.y c.args.r (and_right (int_le (square c.args.x c.args.y c.args.r).x c.args.spot.x && int_lt c.args.spot.x (right (square c.args.x c.args.y c.args.r))) _ c.requires.held) in
    let d : to_z w16 (of_z w16 (to_z w64 (of_z w64 (to_z w64 (of_z w64 c.from-3.result) -ℤ to_z w64 (of_z w64 c.from-4.result))))) ≡ (c.args.spot.y -ℤ c.args.y) = omega (arith, ints, n.low, n.high, c.from-3.ensures, c.from-4.ensures, c.requires.radius) in
    subst (λ z. nat_abs z ≤ 128) (sym d) (near_small c.args.spot.y c.args.y c.args.r n c.requires.radius)

pub returns : goal.returns
returns c =
    c.mask.ensures
    ∙ (let n : IsNear c.args.spot.x c.args.x c.args.r = near_axis c.args.spot.x c.args.x c.args.r (and_left _ _ c.requires.held) in
    let d : to_z w16 (of_z w16 (to_z w64 (of_z w64 (to_z w64 (of_z w64 c.from.result) -ℤ to_z w64 (of_z w64 c.from-2.result))))) ≡ (c.args.spot.x -ℤ c.args.x) = omega (arith, ints, n.low, n.high, c.from.ensures, c.from-2.ensures, c.requires.radius) in
    λ i. mask c.args.r c.args.soft (d i) (to_z w16 (of_z w16 (to_z w64 (of_z w64 (to_z w64 (of_z w64 c.from-3.result) -ℤ to_z w64 (of_z w64 c.from-4.result)))))))
    ∙ (let n : IsNear c.args.spot.y c.args.y c.args.r = near_axis c.args.spot.y c.args.y c.args.r (and_right (int_le (square c.args.x c.args.y c.args.r).x c.args.spot.x && int_lt c.args.spot.x (right (square c.args.x c.args.y c.args.r))) _ c.requires.held) in
    let d : to_z w16 (of_z w16 (to_z w64 (of_z w64 (to_z w64 (of_z w64 c.from-3.result) -ℤ to_z w64 (of_z w64 c.from-4.result))))) ≡ (c.args.spot.y -ℤ c.args.y) = omega (arith, ints, n.low, n.high, c.from-3.ensures, c.from-4.ensures, c.requires.radius) in
    λ i. mask c.args.r c.args.soft (c.args.spot.x -ℤ c.args.x) (d i))
