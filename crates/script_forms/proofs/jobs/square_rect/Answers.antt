use Rattle.std.proofs.Common.{◌≡◌, refl, arith, ◌+◌, ◌*◌, to_z, of_z, w32}
use Rattle.std.specs.Prelude.{ℤ, pos, ◌-ℤ◌}
use borrow.Author.Differences.{ints}
use Rattle.geom_core.specs.Areas.{area}
use Rattle.script_forms.proofs.World.{told_as}
use Rattle.script_forms.proofs.jobs.square_rect.Goals as goal

pub returns : goal.returns
returns c =
    let r = c.args.r in
    let moved : ℤ → ℤ = λ x. to_z w32 (of_z w32 (to_z w32 (of_z w32 x) -ℤ to_z w32 c.args.r)) in
    let x : moved c.args.x ≡ (c.args.x -ℤ pos r) = omega (arith, ints) in
    let y : moved c.args.y ≡ (c.args.y -ℤ pos r) = omega (arith, ints) in
    let side = 2 * r + 1 in
    told_as (area (moved c.args.x) (moved c.args.y) side side) (c.args.x -ℤ pos r) (c.args.y -ℤ pos r) side side c.rect.ensures x y refl refl
