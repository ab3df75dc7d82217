use Rattle.std.proofs.Common.{◌≡◌, ◌<◌, pos, to_z, of_z, w32, arith, ap, ◌∙◌}
use Rattle.std.specs.Prelude.{◌≤ℤ◌, nat_abs}
use Rattle.std.specs.Int.{int_max}
use borrow.Author.Differences.{ints}
use Rattle.job_core.proofs.Near.{multiples_code}
use Rattle.job_core.proofs.tracks.multiples.Goals as goal

pub returns : goal.returns
returns c =
    let x : to_z w32 (of_z w32 c.args.steps.low) ≡ c.args.steps.low = omega (arith, ints) in
    let y : to_z w32 (of_z w32 c.args.steps.high) ≡ c.args.steps.high = omega (arith, ints) in
    let not_less : pos 0 ≤ℤ c.args.steps.high = grind (arith, ints) in
    let small : nat_abs (to_z w32 (of_z w32 c.args.steps.high)) < 2147483648 = omega (arith, ints) in
    let m : to_z w32 (of_z w32 c.max.result) ≡ c.max.result = omega (arith, ints) in
    multiples_code c.args.steps.low c.args.steps.high c.max.result (nat_abs (to_z w32 (of_z w32 c.args.steps.high))) (nat_abs (to_z w32 (of_z w32 c.max.result))) c.args.gap c.from-gap.result c.saturating_add.result c.args.count c.div_ceil.result c.min-first.result c.min-end.result
    c.requires c.from-gap.ensures not_less (ap nat_abs y) small (c.max.ensures.value ∙ ap (λ z. int_max z (pos 0)) x) (ap nat_abs m) c.saturating_add.ensures c.min-end.ensures c.div_ceil.ensures c.min-first.ensures
