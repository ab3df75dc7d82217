use Rattle.geom_core.proofs.Rounds.{RoundSoFar}
use Rattle.memento_core.proofs.keys.bound_of.Given as goal

-- the rectangle so far, and the tiles that are left
abbrev pub invariant-loop-key : goal.invariant-loop-key
invariant-loop-key l = RoundSoFar l.tiles.keys l.bound l.key-iterator
