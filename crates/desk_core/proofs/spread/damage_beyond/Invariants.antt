use Rattle.std.proofs.Common.{take}
use Rattle.geom_core.specs.Grid.{keys_of}
use Rattle.desk_core.proofs.Forgetting.{LeftOn}
use Rattle.desk_core.proofs.spread.damage_beyond.Given as goal

-- of the tiles so far, what is left has all damaged points outside of the rectangle
abbrev pub invariant-loop-i : goal.invariant-loop-i
invariant-loop-i l = LeftOn (take l.i (keys_of l.canvas)) l.rect l.damage l.left
