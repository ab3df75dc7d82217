use Rattle.picture_reading.specs.Changes.{IsRoundOf}
use Rattle.picture_reading.proofs.changed.round_all.Given as goal

-- the rectangle is round the tiles of the rows above
abbrev pub invariant-loop-row : goal.invariant-loop-row
invariant-loop-row g l = IsRoundOf (g.P.Picture.shown l.picture) (g.Q.Picture.shown l.before) 0 l.row l.round
