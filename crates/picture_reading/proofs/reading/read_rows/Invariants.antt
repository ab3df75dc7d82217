use Rattle.picture_reading.specs.Reading.{HasRead}
use Rattle.picture_reading.proofs.reading.read_rows.Given as goal

-- the rows so far are read
abbrev pub invariant-loop-row : goal.invariant-loop-row
invariant-loop-row g l = HasRead (g.P.Picture.shown l.picture) l.layout l.part.x l.part.y l.part.w l.row l.initial.out l.out
