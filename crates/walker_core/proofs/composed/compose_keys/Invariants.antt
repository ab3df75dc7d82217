use Rattle.std.proofs.Common.{◌≡◌, take}
use Rattle.walker_core.specs.Composing.{tiles_in, AreOf}
use Rattle.walker_core.proofs.composed.compose_keys.Given as goal

-- the tiles so far are composed
abbrev pub invariant-loop-i : goal.invariant-loop-i
invariant-loop-i l = (tiles_in l.rows ≡ take l.i l.keys) × AreOf l.inputs l.rows
