use Rattle.std.proofs.Common.{◌≡◌, [], take, length, true}
use Rattle.std.specs.Prelude.{All}
use Rattle.geom_core.specs.Areas.{holds, Point}
use Rattle.doc_model.specs.Shots.{in_tile}
use Rattle.machine_model.specs.Walks.{walk_values}
use Rattle.walker_core.specs.Folds.{IsFoldOn}
use Rattle.walker_core.specs.Rows.{given_values}
use Rattle.walker_core.specs.Readings.{path_in}
use Rattle.walker_core.proofs.row.compose_row.Given as goal

-- the groups so far have the walk's values, and their folds are right
abbrev pub invariant-loop-i : goal.invariant-loop-i
invariant-loop-i l = record {
  many : length l.given.items ≡ l.i;
  values : (p : Point) → holds l.inputs.patch.rect p ≡ true → in_tile l.key p ≡ true → given_values (take l.i (path_in l.inputs)) l.given.items [] p ≡ walk_values (take l.i l.inputs.groups) [] p;
  folds : All (IsFoldOn l.inputs l.key) l.folds.items;
}
