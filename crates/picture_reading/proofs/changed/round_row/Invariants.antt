use Rattle.picture_reading.specs.Changes.{IsRoundOf}
use Rattle.picture_reading.proofs.changed.round_row.Given as goal

-- the rectangle is round the tiles before this one
abbrev pub invariant-loop-col : goal.invariant-loop-col
invariant-loop-col g l = IsRoundOf (g.P.Picture.shown l.picture) (g.Q.Picture.shown l.before) l.col l.row l.round
