use Rattle.std.proofs.Common.{◌≡◌, Some, length, refl}
use Rattle.std.specs.Prelude.{slice_get}
use Rattle.std.proofs.lemmas.Option.{slice_get_read}
use Rattle.job_core.specs.Paints.{layer_of}
use Rattle.slot_work.specs.Lacking.{IsOfJob}
use Rattle.slot_work.proofs.Lackings.{all_at, all_more}
use Rattle.slot_work.proofs.wholes.are_of_job.Goals as goal

pub returns-then-not-is_of_job-clause-none : goal.returns-then-not-is_of_job-clause-none
returns-then-not-is_of_job-clause-none c h all =
    let at : slice_get c.args.tiles.now c.loop-whole.whole-index ≡ Some c.whole-item.result = slice_get_read c.args.tiles.now (length c.args.tiles.now) c.loop-whole.whole-index c.whole-item.result refl c.loop-whole-test.true c.whole-item.is in
    c.is_of_job.ensures.none c.if-not-is_of_job.true (all_at (IsOfJob c.args.painter.now.job (layer_of c.args.painter.now.shot)) c.args.tiles.now c.loop-whole.whole-index c.whole-item.result at all)

pub loop-whole-preserved : goal.loop-whole-preserved
loop-whole-preserved c =
    let at : slice_get c.args.tiles.now c.loop-whole.whole-index ≡ Some c.whole-item.result = slice_get_read c.args.tiles.now (length c.args.tiles.now) c.loop-whole.whole-index c.whole-item.result refl c.loop-whole-test.true c.whole-item.is in
    all_more (IsOfJob c.args.painter.now.job (layer_of c.args.painter.now.shot)) c.args.tiles.now c.loop-whole.whole-index c.whole-item.result at c.loop-whole.invariant (c.is_of_job.ensures.some c.if-not-is_of_job.false)
