use Rattle.std.proofs.Common.{◌≡◌, ℕ, ◌+◌, ◌*◌, ◌∙◌, sym, subst, map, to_z, of_z, w32, arith}
use Rattle.std.specs.Prelude.{ℤ, pos, ◌-ℤ◌, IfOk}
use borrow.Author.Differences.{ints}
use Rattle.geom_core.specs.Areas.{Area, area, points_of, point}
use Rattle.geom_core.specs.Rects.{IsInWorld}
use Rattle.doc_model.specs.Jobs.{square}
use Rattle.plain_painter.specs.Steps.{point_of}
use Rattle.plain_painter.proofs.Layered.{round_in_world}
use Rattle.plain_painter.proofs.layer.spots_round.Goals as goal

pub overflow_sub-spot : goal.overflow_sub-spot
overflow_sub-spot c =
    let w : IsInWorld (square c.args.spot.x c.args.spot.y c.args.r) = round_in_world c.args.rect c.args.r (point c.args.spot.x c.args.spot.y) c.requires.job_sound c.requires.held in
    omega (arith, ints, w.left, w.right, c.from-reach.ensures)

pub overflow_sub-spot-2 : goal.overflow_sub-spot-2
overflow_sub-spot-2 c =
    let w : IsInWorld (square c.args.spot.x c.args.spot.y c.args.r) = round_in_world c.args.rect c.args.r (point c.args.spot.x c.args.spot.y) c.requires.job_sound c.requires.held in
    omega (arith, ints, w.top, w.bottom, c.from-reach.ensures)

-- what was made is the square
made : (rect : Area) (x y a b : ℤ) (r s t : ℕ) → a ≡ x -ℤ pos r → b ≡ y -ℤ pos r → s ≡ r → t ≡ r → area a b (2 * s + 1) (2 * t + 1) ≡ square x y r
made rect x y a b r s t ea eb es et i = area (ea i) (eb i) (2 * es i + 1) (2 * et i + 1)

pub unreachable-requires : goal.unreachable-requires
unreachable-requires c =
    let w : IsInWorld (square c.args.spot.x c.args.spot.y c.args.r) = round_in_world c.args.rect c.args.r (point c.args.spot.x c.args.spot.y) c.requires.job_sound c.requires.held in
    c.in-Err.ensures.outside (subst IsInWorld (sym (made c.args.rect c.args.spot.x c.args.spot.y _ _ c.args.r c.from.result c.from.result
    (let x : to_z w32 (of_z w32 (to_z w32 (of_z w32 c.args.spot.x) -ℤ to_z w32 (of_z w32 c.from-reach.result))) ≡ c.args.spot.x -ℤ pos c.args.r = omega (arith, ints, w.left, w.right, c.from-reach.ensures) in x)
    (let y : to_z w32 (of_z w32 (to_z w32 (of_z w32 c.args.spot.y) -ℤ to_z w32 (of_z w32 c.from-reach.result))) ≡ c.args.spot.y -ℤ pos c.args.r = omega (arith, ints, w.top, w.bottom, c.from-reach.ensures) in y)
    c.from.ensures c.from.ensures)) w)

pub returns : goal.returns
returns c =
    let w : IsInWorld (square c.args.spot.x c.args.spot.y c.args.r) = round_in_world c.args.rect c.args.r (point c.args.spot.x c.args.spot.y) c.requires.job_sound c.requires.held in
    subst (λ a. IfOk c.spots_of.result (λ s. map point_of s.items ≡ points_of a)) (c.in-Ok.ensures.ok ∙ made c.args.rect c.args.spot.x c.args.spot.y _ _ c.args.r c.from.result c.from.result
    (let x : to_z w32 (of_z w32 (to_z w32 (of_z w32 c.args.spot.x) -ℤ to_z w32 (of_z w32 c.from-reach.result))) ≡ c.args.spot.x -ℤ pos c.args.r = omega (arith, ints, w.left, w.right, c.from-reach.ensures) in x)
    (let y : to_z w32 (of_z w32 (to_z w32 (of_z w32 c.args.spot.y) -ℤ to_z w32 (of_z w32 c.from-reach.result))) ≡ c.args.spot.y -ℤ pos c.args.r = omega (arith, ints, w.top, w.bottom, c.from-reach.ensures) in y)
    c.from.ensures c.from.ensures) c.spots_of.ensures
