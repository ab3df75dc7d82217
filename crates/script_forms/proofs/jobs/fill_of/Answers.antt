use Rattle.std.proofs.Common.{ap}
use Rattle.doc_model.specs.declared.job.Job.TheVariants.{Fill}
use Rattle.script_forms.specs.Jobs.{area_of}
use Rattle.script_forms.proofs.World.{checked_sound, box, held, one, answer}
use Rattle.script_forms.proofs.jobs.fill_of.Goals as goal

pub returns-in-Ok-clause-value : goal.returns-in-Ok-clause-value
returns-in-Ok-clause-value c =
    let h = held (area_of c.args.o) c.in-Ok.rect c.outline_rect.result c.outline_rect.ensures c.in-Ok.is in
    answer _ _ _ (one _ h.inside) (ap (λ r. Fill r c.args.i.colour c.args.i.op c.args.i.strength) h.same)

pub returns-in-Ok-clause-sound : goal.returns-in-Ok-clause-sound
returns-in-Ok-clause-sound c = checked_sound (Fill (area_of c.args.o) c.args.i.colour c.args.i.op c.args.i.strength) _ (returns-in-Ok-clause-value c) (box c.args.o.w c.args.o.h c.requires.o.some_w c.requires.o.w c.requires.o.some_h c.requires.o.h)
