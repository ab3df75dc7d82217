use Rattle.std.proofs.Common.{arith}
use Rattle.tile_core.proofs.PartsOf.{fits_across, fits_down}
use Rattle.job_core.proofs.Keys.{square_met}
use Rattle.job_core.proofs.InPlace.{dab_laid}
use Rattle.job_core.proofs.points.dab_in.Goals as goal

pub part_in-part-requires-clause-key : goal.part_in-part-requires-clause-key
part_in-part-requires-clause-key c = c.requires.key

pub part_in-part-requires-clause-met : goal.part_in-part-requires-clause-met
part_in-part-requires-clause-met c = square_met _ _ _ c.square.result _ c.square.ensures c.requires.work.met

pub lay_dab-requires-clause-across : goal.lay_dab-requires-clause-across
lay_dab-requires-clause-across c = fits_across c.args.key c.part_in-part.result c.part_in_tile.result c.requires.key c.part_in-part.ensures.in_b c.part_in_tile.ensures

pub lay_dab-requires-clause-down : goal.lay_dab-requires-clause-down
lay_dab-requires-clause-down c = omega (arith, c.requires.whole, fits_down c.args.key c.part_in-part.result c.part_in_tile.result c.requires.key c.part_in-part.ensures.in_b c.part_in_tile.ensures)

pub returns : goal.returns
returns c = dab_laid c.square.result c.part_in-part.result c.part_in_tile.result c.args.brush.now c.args.ink.now c.args.key _ _ c.square.ensures c.requires.key c.part_in-part.ensures c.part_in_tile.ensures c.lay_dab.ensures

pub lay_dab-requires-clause-small : goal.lay_dab-requires-clause-small
lay_dab-requires-clause-small c = (
  omega (arith, fits_across c.args.key c.part_in-part.result c.part_in_tile.result c.requires.key c.part_in-part.ensures.in_b c.part_in_tile.ensures),
  omega (arith, fits_down c.args.key c.part_in-part.result c.part_in_tile.result c.requires.key c.part_in-part.ensures.in_b c.part_in_tile.ensures),
)
