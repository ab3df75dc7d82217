use Rattle.std.proofs.Common.{◌≡◌, ◌∙◌, ap, arith, get_or}
use Rattle.pixel_core.specs.Compose.{compose}
use Rattle.pixel_core.proofs.ComposeLaws.{opaque_hides, opaque_erases}
use Rattle.pixel_rows.proofs.rows.left_everywhere.Goals as goal

pub returns-in-Over : goal.returns-in-Over
returns-in-Over c d known =
    let a : get_or c.bytes.result 3 0 ≡ c.args.colour.a = ap (λ v. get_or v 3 0) c.bytes.ensures.value in
    let full : c.args.colour.a ≡ 255 = omega (arith, a, c.bytes.ensures.known.a, c.if-a-lt255.false) in
    let whole : c.args.strength ≡ 255 = omega (arith, c.if-strength-lt255.false, c.ranges.strength.fits) in
    ap (compose c.args.op c.args.colour d) whole ∙ ap (λ o. compose o c.args.colour d 255) c.in-Over.is ∙ opaque_hides c.args.colour d full known

pub returns-in-Erase : goal.returns-in-Erase
returns-in-Erase c d known =
    let a : get_or c.bytes.result 3 0 ≡ c.args.colour.a = ap (λ v. get_or v 3 0) c.bytes.ensures.value in
    let full : c.args.colour.a ≡ 255 = omega (arith, a, c.bytes.ensures.known.a, c.if-a-lt255.false) in
    let whole : c.args.strength ≡ 255 = omega (arith, c.if-strength-lt255.false, c.ranges.strength.fits) in
    ap (compose c.args.op c.args.colour d) whole ∙ ap (λ o. compose o c.args.colour d 255) c.in-Erase.is ∙ opaque_erases c.args.colour d full
