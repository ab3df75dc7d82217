use Rattle.std.proofs.Common.{arith}
use Rattle.picture_reading.proofs.Rounds.{all_rows}
use Rattle.picture_reading.proofs.changed.round_all.Goals as goal

pub returns : goal.returns
returns g c = all_rows (g.P.Picture.shown c.args.picture.now) (g.Q.Picture.shown c.args.before.now) c.loop-row.row c.loop-row.round (omega arith) c.loop-row.invariant
