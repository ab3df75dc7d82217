use Rattle.std.proofs.Common.{◌∷◌, take}
use Rattle.walker_core.proofs.LowerOnes.{NoneMoves}
use Rattle.walker_core.proofs.folds.lower_end.Given as goal

-- none of the children so far moves
abbrev pub invariant-loop-i : goal.invariant-loop-i
invariant-loop-i l = NoneMoves (l.layer ∷ l.path) l.group (take l.i l.sources)
