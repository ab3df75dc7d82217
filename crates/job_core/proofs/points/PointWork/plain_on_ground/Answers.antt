use Rattle.std.proofs.Common.{◌∙◌, ap, sym, replicate}
use Rattle.std.proofs.lemmas.List.{get_or-replicate}
use Rattle.pixel_core.specs.Rgba.{clear}
use Rattle.job_core.specs.Laid.{inked}
use Rattle.job_core.proofs.points.PointWork.plain_on_ground.Goals as goal

pub returns : goal.returns
returns c = c.in_ok-covering_ink.ensures (replicate 4096 c.args.ground) c.on.result
    (λ k h. ap (inked c.in_ok-covering_ink.field-0 0 0) (get_or-replicate 4096 k c.args.ground clear h) ∙ sym c.on.ensures)
