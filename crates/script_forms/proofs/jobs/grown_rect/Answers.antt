use Rattle.std.proofs.Common.{◌≡◌, arith, ◌+◌, ◌*◌, to_z, of_z, w32}
use Rattle.std.specs.Prelude.{ℤ, pos, ◌-ℤ◌}
use borrow.Author.Differences.{ints}
use Rattle.geom_core.specs.Areas.{area}
use Rattle.script_forms.proofs.World.{told_as}
use Rattle.script_forms.proofs.jobs.grown_rect.Goals as goal

pub returns : goal.returns
returns c =
    let r = c.args.r in
    let a = c.args.inner.now in
    let moved : ℤ → ℤ = λ x. to_z w32 (of_z w32 (to_z w32 (of_z w32 x) -ℤ to_z w32 c.args.r)) in
    let x : moved c.x.result ≡ (a.x -ℤ pos r) = omega (arith, ints) in
    let y : moved c.y.result ≡ (a.y -ℤ pos r) = omega (arith, ints) in
    told_as (area (moved c.x.result) (moved c.y.result) (c.w.result + 2 * r) (c.h.result + 2 * r)) (a.x -ℤ pos r) (a.y -ℤ pos r) (a.w + 2 * r) (a.h + 2 * r) c.rect.ensures x y (omega arith) (omega arith)
