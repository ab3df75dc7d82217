use Rattle.std.proofs.Common.{sym, ap, subst, ◌∙◌}
use Rattle.geom_core.proofs.Tests.{and_left}
use Rattle.doc_model.specs.declared.job.Job.{Job}
use Rattle.doc_model.specs.Jobs.{writes}
use Rattle.doc_model.specs.Lawful.{within_limits}
use Rattle.whole_tiles.specs.Enough.{IsEnough}
use Rattle.whole_tiles.proofs.Hanging.{key_of_job, rect_met, blur_lies, blur_enough}
use Rattle.whole_tiles.proofs.needs.needs_of_other.Goals as goal

pub part_in-requires-clause-key : goal.part_in-requires-clause-key
part_in-requires-clause-key c = key_of_job c.args.job.now c.args.key c.requires.checked c.requires.limits c.requires.met

pub part_in-requires-clause-met : goal.part_in-requires-clause-met
part_in-requires-clause-met c = rect_met c.args.job.now c.in-Blur.rect c.args.key (ap writes c.in-Blur.is) (and_left _ _ (sym (ap within_limits c.in-Blur.is) ∙ c.requires.limits)) c.requires.met

pub around-requires : goal.around-requires
around-requires c = blur_lies c.args.job.now c.in-Blur.rect c.part_in.result c.in-Blur.r c.args.key c.in-Blur.is c.requires.checked c.requires.limits c.requires.met c.part_in.ensures.in_a

pub returns-in-Blur : goal.returns-in-Blur
returns-in-Blur c = subst (λ (j : Job). IsEnough j c.args.key c.around.result) (sym c.in-Blur.is)
    (blur_enough c.in-Blur.rect c.part_in.result c.around.result c.in-Blur.r c.args.key c.around.ensures c.part_in.ensures)
