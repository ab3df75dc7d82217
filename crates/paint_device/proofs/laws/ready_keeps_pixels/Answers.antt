use Rattle.paint_device.proofs.Writes as writes
use Rattle.paint_device.proofs.laws.ready_keeps_pixels.Goals as goal

pub returns : goal.returns
returns c = writes.ready_keeps_pixels
