use Rattle.std.proofs.Common.{◌≡◌, ◌∙◌, pos, to_z, of_z, w32, arith}
use Rattle.std.specs.Prelude.{◌-ℤ◌}
use borrow.Author.Differences.{ints}
use Rattle.std.proofs.lemmas.Result.{IfOk-weaker}
use Rattle.geom_core.specs.Areas.{moved}
use Rattle.job_core.proofs.MoveValues.{brought_pixels}
use Rattle.job_core.proofs.moves.brought.Goals as goal

pub returns-clause-has : goal.returns-clause-has
returns-clause-has c =
    let x : to_z w32 (of_z w32 c.args.dx) ≡ c.args.dx = omega (arith, ints) in
    let y : to_z w32 (of_z w32 c.args.dy) ≡ c.args.dy = omega (arith, ints) in
    IfOk-weaker c.pixels_on.result _ _
    (λ v h. brought_pixels c.args.rect.now c.moved_back-from.result c.args.shot.now c.args.dx c.args.dy v.items (c.moved_back-from.ensures ∙ (λ i. moved c.args.rect.now (pos 0 -ℤ x i) (pos 0 -ℤ y i))) h)
    c.pixels_on.ensures.has
