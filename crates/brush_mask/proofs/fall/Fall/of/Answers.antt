use Rattle.std.proofs.Common.{◌≡◌, ◌*◌, ◌^◌, ◌%◌, ◌/◌, ◌+◌, ◌∙◌, ap, arith}
use Rattle.brush_mask.proofs.Falling.{falls, product}
use Rattle.brush_mask.proofs.fall.Fall.of.Goals as goal

pub invariant_of-result : goal.invariant_of-result
invariant_of-result c =
    let fits : 255 * 2 ^ c.shift_of-shift.result % 18446744073709551616 ≡ 255 * 2 ^ c.shift_of-shift.result = omega arith in
    record {
      bound = (omega arith, c.shift_of-shift.ensures.small);
      exact = λ n most. ap (λ x. n * (x / c.args.whole + 1) / 2 ^ c.shift_of-shift.result) fits ∙ falls c.args.whole n (2 ^ c.shift_of-shift.result) c.requires.some c.shift_of-shift.ensures.enough most;
      narrow = λ small. omega (arith, fits, product c.args.whole c.args.whole _ (2 ^ c.shift_of-shift.result) c.requires.some (ap (λ x. x / c.args.whole + 1) fits) (omega arith), c.shift_of-shift.ensures.narrow small);
    }
