use Rattle.std.proofs.Common.{take}
use Rattle.geom_core.specs.Grid.{keys_of}
use Rattle.paint_device.specs.Grabs.{Grabs}
use Rattle.paint_device.proofs.device.Device.grab_into.Given as goal

-- the tiles under the keys so far are taken
abbrev pub invariant-loop-i : goal.invariant-loop-i
invariant-loop-i l = Grabs l.self l.initial.shot l.shot (take l.i (keys_of l.rect))
