use Rattle.std.proofs.Common.{◌≡◌, ◌-◌, [], take, length}
use Rattle.geom_core.specs.Areas.{Point}
use Rattle.walker_core.specs.Rows.{given_values, found}
use Rattle.walker_core.proofs.row.walked.Given as goal

-- what is found is found among those that are left
abbrev pub invariant-loop-back : goal.invariant-loop-back
invariant-loop-back l = (p : Point) → found (given_values l.path l.given [] p) l.group ≡ found (given_values (take (length l.given - l.back) l.path) (take (length l.given - l.back) l.given) [] p) l.group
