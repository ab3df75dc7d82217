use Rattle.std.proofs.Common.{◌∙◌}
use Rattle.trace_state.proofs.TileSets.{all_of}
use Rattle.trace_state.proofs.tiles.has_all_of.Goals as goal

pub returns : goal.returns
returns c = c.each_has.ensures ∙ all_of c.args.keys.now c.args.rects.now
