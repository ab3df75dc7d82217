use Rattle.std.proofs.Common.{◌∷◌, option_to_list, refl}
use Rattle.job_core.specs.Paints.{paint}
use Rattle.job_core.proofs.painted.paint_tile.Goals as goal

pub invariant_of-made : goal.invariant_of-made
invariant_of-made c = record {
  work = paint c.args.job.now c.args.shot.now c.args.key (c.in_ok-first.field-0.first ∷ option_to_list c.in_ok-first.field-0.second);
  makes = record { painted = c.in_ok-first.ensures; is = refl };
}
