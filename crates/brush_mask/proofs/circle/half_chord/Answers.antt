use Rattle.std.proofs.Common.{◌≡◌, ◌∙◌, ap, arith, ◌*◌}
use Rattle.std.specs.Prelude.{nat_abs}
use borrow.Author.Differences.{ints}
use Rattle.brush_mask.proofs.Chords.{half, missed}
use Rattle.brush_mask.proofs.circle.half_chord.Goals as goal

pub returns-then-r2-d2-clause-none : goal.returns-then-r2-d2-clause-none
returns-then-r2-d2-clause-none c =
    let down : c.unsigned_abs.result ≡ nat_abs c.args.dy = omega (arith, ints) in
    missed c.args.r c.square-d2.result c.args.dy (c.square-d2.ensures.value ∙ ap (λ n. n * n) down) (omega (arith, c.square-r2.ensures.value, c.if-r2-d2.true))

pub returns-else-r2-d2-clause-some : goal.returns-else-r2-d2-clause-some
returns-else-r2-d2-clause-some c =
    let down : c.unsigned_abs.result ≡ nat_abs c.args.dy = omega (arith, ints) in
    half c.args.r c.square-d2.result c.root.result c.args.dy (c.square-d2.ensures.value ∙ ap (λ n. n * n) down) (omega (arith, c.square-r2.ensures.value, c.if-r2-d2.false))
    (omega (arith, c.square-r2.ensures.value, c.root.ensures.square)) (omega (arith, c.square-r2.ensures.value, c.root.ensures.next))
