use Rattle.std.proofs.Common.{length, refl}
use Rattle.std.proofs.lemmas.Option.{slice_get_read}
use Rattle.trace_state.proofs.TileSets.{rect_round}
use Rattle.trace_state.proofs.tiles.round_all_tiles.Goals as goal

pub loop-rect-preserved : goal.loop-rect-preserved
loop-rect-preserved c =
    let rects = c.args.rects.now in
    rect_round rects c.loop-rect.rect-index c.rect-item.result c.loop-rect.round c.round_tiles-round.result _ (slice_get_read rects (length rects) c.loop-rect.rect-index c.rect-item.result refl c.loop-rect-test.true c.rect-item.is) c.round_tiles-round.ensures c.loop-rect.invariant
