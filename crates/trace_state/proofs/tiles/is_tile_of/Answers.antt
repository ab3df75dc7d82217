use Rattle.std.proofs.Common.{◌≤◌, sym, ap, ◌∙◌, arith}
use Rattle.geom_core.specs.Areas.{meets}
use Rattle.geom_core.proofs.Axes.{tiles_met}
use Rattle.trace_state.proofs.tiles.is_tile_of.Goals as goal

pub returns : goal.returns
returns c =
    let columns : 1 ≤ c.args.rect.now.w = omega arith in
    let rows : 1 ≤ c.args.rect.now.h = omega arith in
    c.meets.ensures ∙ ap (λ t. meets c.args.rect.now t) c.rect.ensures ∙ sym ((tiles_met c.args.rect.now columns rows).exact c.args.key)
