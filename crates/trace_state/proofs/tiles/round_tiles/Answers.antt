use Rattle.std.proofs.Common.{Some, ap, ◌∙◌}
use Rattle.geom_core.specs.Grid.{keys_of}
use Rattle.geom_core.specs.Exchanged.{widened}
use Rattle.trace_state.proofs.TileSets.{tile_round}
use Rattle.trace_state.proofs.tiles.round_tiles.Goals as goal

pub loop-i-preserved : goal.loop-i-preserved
loop-i-preserved c = tile_round (keys_of c.args.rect.now) c.loop-i.i c.tile_at.result c.loop-i.round (Some c.round.result) _ c.tile_at.ensures.value (ap Some (c.round.ensures ∙ ap (λ t. widened c.loop-i.round t) c.rect.ensures)) c.loop-i.invariant
