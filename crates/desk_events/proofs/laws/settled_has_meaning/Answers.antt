use Rattle.std.proofs.Common.{subst}
use Rattle.machine_model.specs.MeaningLaws.{HasMeaning}
use Rattle.machine_model.specs.Settled.{IsSettled}
use Rattle.machine_model.proofs.RunsOrderly.{settled_has_meaning}
use Rattle.desk_events.proofs.laws.settled_has_meaning.Goals as goal

pub returns : goal.returns
returns c = subst (λ s. IsSettled s → HasMeaning s) c.machine.view_is (settled_has_meaning _ c.machine.invariant.sound.orderly)
