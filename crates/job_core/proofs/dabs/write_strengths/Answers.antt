use Rattle.std.proofs.Common.{◌≡◌, ◌∙◌, ap, sym, arith, pos, to_z, of_z, w16}
use Rattle.std.specs.Prelude.{◌+ℤ◌}
use borrow.Author.Differences.{ints}
use Rattle.pixel_core.specs.Compose.{mul}
use Rattle.pixel_core.proofs.Rounding.{whole}
use Rattle.brush_mask.specs.Mask.{mask}
use Rattle.job_core.proofs.dabs.write_strengths.Goals as goal

pub returns-else-ink : goal.returns-else-ink
returns-else-ink c = λ k small.
    let across : to_z w16 (of_z w16 c.args.dx) ≡ c.args.dx = omega (arith, ints) in
    let down : to_z w16 (of_z w16 c.args.dy) ≡ c.args.dy = omega (arith, ints) in
    c.mask_row.ensures k small
    ∙ ap (λ x. mask c.args.brush.now.r c.args.brush.now.soft (x +ℤ pos k) (to_z w16 (of_z w16 c.args.dy))) across
    ∙ ap (mask c.args.brush.now.r c.args.brush.now.soft (c.args.dx +ℤ pos k)) down
    ∙ sym (whole (mask c.args.brush.now.r c.args.brush.now.soft (c.args.dx +ℤ pos k) c.args.dy))
    ∙ ap (mul (mask c.args.brush.now.r c.args.brush.now.soft (c.args.dx +ℤ pos k) c.args.dy)) (sym c.if-ink.false)
