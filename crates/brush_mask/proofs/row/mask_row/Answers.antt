use Rattle.std.proofs.Common.{◌≡◌, ◌∙◌, ap, sym, arith, ◌+◌, ◌*◌, ◌-◌, ◌/◌, pos, to_z, of_z, w16}
use Rattle.std.specs.Prelude.{nat_abs, ◌+ℤ◌}
use borrow.Author.Differences.{ints}
use Rattle.brush_mask.specs.Mask.{mask}
use Rattle.brush_mask.specs.Rows.{spare, full}
use Rattle.brush_mask.proofs.MaskRows.{hard_strength, soft_strength}
use Rattle.brush_mask.proofs.row.mask_row.Goals as goal

pub returns-then-soft : goal.returns-then-soft
returns-then-soft c = λ k small.
    let whole : c.square-whole.result ≡ c.args.r * c.args.r = c.square-whole.ensures.value in
    let across : to_z w16 (of_z w16 c.args.dx) ≡ c.args.dx = omega (arith, ints) in
    let down : c.unsigned_abs.result ≡ nat_abs c.args.dy = omega (arith, ints) in
    let room : c.saturating_sub-room.result ≡ (c.args.r * c.args.r + 1) - nat_abs c.args.dy * nat_abs c.args.dy =
    c.saturating_sub-room.ensures ∙ ap (λ n. n + 1 - c.square.result) whole ∙ ap (λ n. (c.args.r * c.args.r + 1) - n) (c.square.ensures.value ∙ ap (λ n. n * n) down) in
    c.soft_row.ensures k small
    ∙ ap (λ z. 255 * spare c.saturating_sub-room.result (z +ℤ pos k) / (c.square-whole.result + 1)) across
    ∙ ap (λ w. 255 * spare c.saturating_sub-room.result (c.args.dx +ℤ pos k) / (w + 1)) whole
    ∙ sym (soft_strength c.args.r c.saturating_sub-room.result (c.args.dx +ℤ pos k) c.args.dy room)
    ∙ ap (λ s. mask c.args.r s (c.args.dx +ℤ pos k) c.args.dy) (sym c.if-soft.true)

pub returns-else-soft : goal.returns-else-soft
returns-else-soft c = λ k small.
    let whole : c.square-whole.result ≡ c.args.r * c.args.r = c.square-whole.ensures.value in
    let across : to_z w16 (of_z w16 c.args.dx) ≡ c.args.dx = omega (arith, ints) in
    let down : c.unsigned_abs.result ≡ nat_abs c.args.dy = omega (arith, ints) in
    let room : c.saturating_sub-room.result ≡ (c.args.r * c.args.r + 1) - nat_abs c.args.dy * nat_abs c.args.dy =
    c.saturating_sub-room.ensures ∙ ap (λ n. n + 1 - c.square.result) whole ∙ ap (λ n. (c.args.r * c.args.r + 1) - n) (c.square.ensures.value ∙ ap (λ n. n * n) down) in
    c.hard_row.ensures k small
    ∙ ap (λ z. full c.saturating_sub-room.result (z +ℤ pos k)) across
    ∙ sym (hard_strength c.args.r c.saturating_sub-room.result (c.args.dx +ℤ pos k) c.args.dy room)
    ∙ ap (λ s. mask c.args.r s (c.args.dx +ℤ pos k) c.args.dy) (sym c.if-soft.false)
