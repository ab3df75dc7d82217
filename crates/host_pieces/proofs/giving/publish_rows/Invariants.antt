use Rattle.std.proofs.Common.{take}
use Rattle.host_pieces.specs.Giving.{RowsGiven}
use Rattle.host_pieces.proofs.giving.publish_rows.Given as goal

-- the tiles so far are published
abbrev pub invariant-loop-i : goal.invariant-loop-i
invariant-loop-i l = RowsGiven l.slot l.composed (take l.i l.part.keys) l.initial.desk l.desk
