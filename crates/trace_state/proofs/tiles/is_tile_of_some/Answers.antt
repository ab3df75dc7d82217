use Rattle.std.proofs.Common.{◌∙◌}
use Rattle.trace_state.proofs.TileSets.{some_of}
use Rattle.trace_state.proofs.tiles.is_tile_of_some.Goals as goal

pub returns : goal.returns
returns c = c.some_has.ensures ∙ some_of c.args.key c.args.rects.now
