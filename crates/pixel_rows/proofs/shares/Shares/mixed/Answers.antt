use Rattle.std.proofs.Common.{◌∙◌, ap, ◌+◌, ◌*◌, ◌/◌}
use Rattle.pixel_rows.proofs.Weights.{rounds}
use Rattle.pixel_rows.proofs.shares.Shares.mixed.Goals as goal

pub returns : goal.returns
returns c =
    let parts = c.args.self in
    let n = parts.backdrop * c.args.d + parts.source * c.args.s + parts.both * c.args.f in
    λ some. c.mean_of_three.ensures ∙ ap (λ w. (n + w / 2) / w) (parts.whole some) ∙ rounds n (parts.source + parts.backdrop + parts.both) some
