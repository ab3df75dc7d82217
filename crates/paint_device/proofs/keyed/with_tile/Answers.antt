use Rattle.std.proofs.Common.{◌&&◌, sym, ap, ◌∙◌}
use Rattle.geom_core.specs.Areas.{lies_in}
use Rattle.geom_core.specs.Exchanged.{lies_if}
use Rattle.geom_core.proofs.Rounds.{bound_in}
use Rattle.paint_device.proofs.keyed.with_tile.Goals as goal

pub returns-in-Some : goal.returns-in-Some
returns-in-Some c d = ap (λ a. lies_in a d) c.bound.ensures ∙ bound_in c.in-Some.extent c.args.rect d ∙ ap (λ o. lies_if o d && lies_in c.args.rect d) (sym c.in-Some.is)
