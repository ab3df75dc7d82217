use Rattle.std.proofs.Common.{◌∙◌, ap, ◌+◌, ◌*◌, ◌/◌}
use Rattle.pixel_rows.proofs.Weights.{rounds}
use Rattle.pixel_rows.proofs.mixing.Parts.mixed.Goals as goal

pub returns : goal.returns
returns c =
    let parts = c.args.self in
    let n = parts.source * c.args.s + parts.backdrop * c.args.d in
    λ some. c.mean.ensures ∙ ap (λ w. (n + w / 2) / w) (parts.whole some) ∙ rounds n (parts.source + parts.backdrop) some
