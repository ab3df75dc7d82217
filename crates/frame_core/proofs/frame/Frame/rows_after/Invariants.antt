use Rattle.std.proofs.Common.{◌*◌, min}
use Rattle.frame_core.proofs.PictureRows.{PictureSoFar}
use Rattle.frame_core.proofs.frame.Frame.rows_after.Given as goal

-- the rows in the tiles so far are those of this frame
abbrev pub invariant-loop-row : goal.invariant-loop-row
invariant-loop-row l = PictureSoFar l.self l.top l.initial.band l.band (min (64 * l.row) l.n) l.at
