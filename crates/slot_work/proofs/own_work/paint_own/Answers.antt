use Rattle.whole_tiles.proofs.Seen.{own_seen}
use Rattle.slot_work.proofs.own_work.paint_own.Goals as goal

pub paint_tile-requires-clause-seen : goal.paint_tile-requires-clause-seen
paint_tile-requires-clause-seen c = own_seen _ _ c.requires.seen
