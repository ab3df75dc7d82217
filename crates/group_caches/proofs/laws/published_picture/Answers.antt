use Rattle.std.proofs.Common.{ap}
use Rattle.machine_model.specs.State.{State}
use Rattle.group_caches.proofs.laws.published_picture.Goals as goal

pub returns : goal.returns
returns c = λ old new place g key step. ap (λ (s : State). s.caches) step.new_is
