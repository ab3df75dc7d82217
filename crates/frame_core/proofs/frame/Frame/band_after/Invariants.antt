use Rattle.std.proofs.Common.{◌*◌}
use Rattle.frame_core.proofs.Bands.{BandSoFar}
use Rattle.frame_core.proofs.frame.Frame.band_after.Given as goal

-- the rows' points in the tiles so far are those of this frame
abbrev pub invariant-loop-col : goal.invariant-loop-col
invariant-loop-col l = BandSoFar l.self (64 * l.row) l.n l.initial.band l.band l.col
