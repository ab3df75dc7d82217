use Rattle.std.proofs.Common.{◌≡◌, pos, to_z, of_z, w32, arith}
use Rattle.std.specs.Prelude.{◌-ℤ◌}
use borrow.Author.Differences.{ints}
use Rattle.geom_core.specs.Areas.{moved}
use Rattle.doc_model.proofs.InWorld.{same_value, err_outside}
use Rattle.job_core.proofs.MoveValues.{ok_of, value_of}
use Rattle.job_core.proofs.part.moved_back.Goals as goal

pub unwrap-requires : goal.unwrap-requires
unwrap-requires c =
    let x : to_z w32 (of_z w32 (pos 0 -ℤ to_z w32 (of_z w32 c.args.dx))) ≡ (pos 0 -ℤ c.args.dx) = omega (arith, ints) in
    let y : to_z w32 (of_z w32 (pos 0 -ℤ to_z w32 (of_z w32 c.args.dy))) ≡ (pos 0 -ℤ c.args.dy) = omega (arith, ints) in
    ok_of c.moved.result (moved c.args.rect.now (pos 0 -ℤ c.args.dx) (pos 0 -ℤ c.args.dy)) (err_outside _ _ _ (λ i. moved c.args.rect.now (x i) (y i)) c.moved.ensures.outside) c.requires.from

pub returns : goal.returns
returns c =
    let x : to_z w32 (of_z w32 (pos 0 -ℤ to_z w32 (of_z w32 c.args.dx))) ≡ (pos 0 -ℤ c.args.dx) = omega (arith, ints) in
    let y : to_z w32 (of_z w32 (pos 0 -ℤ to_z w32 (of_z w32 c.args.dy))) ≡ (pos 0 -ℤ c.args.dy) = omega (arith, ints) in
    value_of c.moved.result _ _ c.unwrap.ensures (same_value _ _ _ (λ i. moved c.args.rect.now (x i) (y i)) c.moved.ensures.ok)
