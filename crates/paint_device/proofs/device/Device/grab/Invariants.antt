use Rattle.std.proofs.Common.{take}
use Rattle.geom_core.specs.Grid.{all_keys_of}
use Rattle.paint_device.specs.Grabs.{Grabs}
use Rattle.paint_device.proofs.device.Device.grab.Given as goal

-- the tiles of the rectangles so far are taken
abbrev pub invariant-loop-rect : goal.invariant-loop-rect
invariant-loop-rect l = Grabs l.self l.initial.shot l.shot (all_keys_of (take l.rect-index l.rects))
