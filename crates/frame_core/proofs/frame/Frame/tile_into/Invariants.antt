use Rattle.std.proofs.Common.{◌-◌, ◌*◌, min}
use Rattle.frame_core.proofs.Bands.{ColumnSoFar}
use Rattle.frame_core.proofs.frame.Frame.tile_into.Given as goal

-- the rows so far are written in the column's tiles
abbrev pub invariant-loop-y : goal.invariant-loop-y
invariant-loop-y l = ColumnSoFar l.self l.top l.initial.band l.band (64 * l.col) (min 64 (l.self.width - 64 * l.col)) l.y l.at
