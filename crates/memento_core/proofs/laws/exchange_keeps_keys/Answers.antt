use Rattle.memento_core.proofs.Booked.{exchange_keys}
use Rattle.memento_core.proofs.laws.exchange_keeps_keys.Goals as goal

pub returns : goal.returns
returns g c = exchange_keys
