use Rattle.tile_core.proofs.LaidKeys.{rows_fit, in_span}
use Rattle.job_core.proofs.RowLaws.{laid_over}
use Rattle.job_core.proofs.rows.lay_over.Goals as goal

pub lay_rows-requires-clause-down : goal.lay_rows-requires-clause-down
lay_rows-requires-clause-down c = rw (c.requires.all, c.w-2.ensures.value, c.h.ensures.value)
    (rows_fit c.top-2.result c.top.result c.args.part.now.h c.args.rect.now.h c.args.rect.now.w (in_span c.args.rect.now.y c.args.part.now.y c.top-2.result c.top.result c.args.part.now.h c.args.rect.now.h c.top-2.ensures.value c.top.ensures.value c.requires.inside.top c.requires.inside.bottom))

pub returns : goal.returns
returns c = laid_over c.args.rect.now c.args.part.now c.left-2.result c.top-2.result c.left.result c.top.result c.w.result c.h.result c.w-2.result c.args.src.now c.args.pixels.now c.lay_rows.new.pixels
    c.left-2.ensures.value c.top-2.ensures.value c.left.ensures.value c.top.ensures.value c.requires.inside c.w.ensures.value c.h.ensures.value c.w-2.ensures.value c.lay_rows.ensures
