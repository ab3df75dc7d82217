use Rattle.tile_core.proofs.PartsOf.{fits_across, fits_down}
use Rattle.job_core.proofs.Values.{some_of_limits, one_met}
use Rattle.job_core.proofs.InPlace.{fill_laid}
use Rattle.job_core.proofs.points.fill_in.Goals as goal

pub part_in-part-requires-clause-key : goal.part_in-part-requires-clause-key
part_in-part-requires-clause-key c = c.requires.key

pub part_in-part-requires-clause-met : goal.part_in-part-requires-clause-met
part_in-part-requires-clause-met c = one_met c.args.rect.now c.args.key (some_of_limits c.args.rect.now c.requires.work.limits) c.requires.work.met

pub lay_ink-requires-clause-across : goal.lay_ink-requires-clause-across
lay_ink-requires-clause-across c = fits_across c.args.key c.part_in-part.result c.part_in_tile.result c.requires.key c.part_in-part.ensures.in_b c.part_in_tile.ensures

pub lay_ink-requires-clause-down : goal.lay_ink-requires-clause-down
lay_ink-requires-clause-down c = fits_down c.args.key c.part_in-part.result c.part_in_tile.result c.requires.key c.part_in-part.ensures.in_b c.part_in_tile.ensures

pub returns : goal.returns
returns c = fill_laid c.args.rect.now c.part_in-part.result c.part_in_tile.result c.args.ink.now c.args.key _ _ c.requires.key c.part_in-part.ensures c.part_in_tile.ensures c.lay_ink.ensures
