use Rattle.std.proofs.Common.{arith}
use Rattle.picture_reading.proofs.Rounds.{agree_outside, all_round, none_differ}
use Rattle.picture_reading.proofs.changed.changes.Goals as goal

pub invariant_of-result : goal.invariant_of-result
invariant_of-result g c =
    let is = c.in-Some.ensures in
    record {
      some_columns = omega (arith, is.some_columns);
      columns = omega (arith, is.some_columns, is.columns);
      some_rows = omega (arith, is.some_rows);
      rows = omega (arith, is.some_rows, is.rows);
    }

pub returns-in-Some-clause-least : goal.returns-in-Some-clause-least
returns-in-Some-clause-least g c = all_round (g.P.Picture.shown c.args.picture.now) (g.Q.Picture.shown c.args.before.now) c.in-Some.sides c.in-Some.ensures
