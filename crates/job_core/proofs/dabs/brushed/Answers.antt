use Rattle.std.proofs.Common.{◌∙◌, arith, ap, length}
use borrow.Author.Differences.{ints}
use Rattle.job_core.proofs.Values.{refilled}
use Rattle.job_core.proofs.DabRows.{few_pixels}
use Rattle.job_core.proofs.DabValues.{dabbed_pixels}
use Rattle.job_core.proofs.dabs.brushed.Goals as goal

pub lay_dab-requires-clause-few : goal.lay_dab-requires-clause-few
lay_dab-requires-clause-few c = omega (arith, few_pixels c.args.part.now.h c.args.part.now.w (omega (arith, ints)) (omega (arith, ints)), ap length c.deref_mut.ensures.value, c.in_ok-pixels.ensures.all, c.in_ok-pixels.pixels.ok.0)

pub returns-clause-has : goal.returns-clause-has
returns-clause-has c =
    rw (refilled c.in_ok-pixels.pixels.len c.lay_dab.new.pixels c.in_ok-pixels.pixels.items (c.lay_dab.auto.pixels ∙ c.deref_mut.ensures.len))
    (dabbed_pixels c.args.brush.now c.args.ink.now c.args.part.now c.args.shot.now _ _ c.deref_mut.result.now c.in_ok-pixels.pixels.items c.lay_dab.new.pixels c.deref_mut.ensures.value c.w.ensures.value c.h.ensures.value
    c.in_ok-pixels.ensures.has c.lay_dab.ensures)
