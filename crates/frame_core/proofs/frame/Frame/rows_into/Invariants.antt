use Rattle.frame_core.proofs.Bands.{BandSoFar}
use Rattle.frame_core.proofs.frame.Frame.rows_into.Given as goal

-- the rows' points in the tiles so far are written
abbrev pub invariant-loop-col : goal.invariant-loop-col
invariant-loop-col l = BandSoFar l.self l.top l.n l.initial.band l.band l.col
