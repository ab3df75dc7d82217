use Rattle.std.proofs.Common.{take}
use Rattle.geom_core.specs.Grid.{keys_of}
use Rattle.frame_core.proofs.DamagedParts.{AddsIn}
use Rattle.frame_core.proofs.damage.Damage.add.Given as goal

-- the tiles so far have their parts
abbrev pub invariant-loop-i : goal.invariant-loop-i
invariant-loop-i l = AddsIn l.rect (take l.i (keys_of l.rect)) l.initial.self l.self
