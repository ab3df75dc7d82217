use Rattle.std.specs.List.{All}
use Rattle.desk_core.specs.Keeping.{Lowers, Shows}
use Rattle.desk_core.proofs.folds.Folds.folds_on.Given as goal

-- those so far show what all show
abbrev pub invariant-loop-fold : goal.invariant-loop-fold
invariant-loop-fold l = (x : Lowers) → All (Shows x) l.self.folds.items → All (Shows x) l.folds.items
