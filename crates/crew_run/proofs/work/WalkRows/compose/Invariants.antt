use Rattle.std.specs.Prelude.{All}
use Rattle.geom_core.specs.Keys.{IsWorldKey}
use Rattle.crew_run.proofs.work.WalkRows.compose.Given as goal

-- the keys so far lie in the world
abbrev pub invariant-loop-i : goal.invariant-loop-i
invariant-loop-i g l = All IsWorldKey l.keys.items
