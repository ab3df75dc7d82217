use Rattle.paint_device.proofs.Writes as writes
use Rattle.paint_device.proofs.laws.seen_after_exchange.Goals as goal

pub returns : goal.returns
returns c = writes.seen_after_exchange
