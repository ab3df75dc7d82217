use Rattle.machine_model.proofs.RunsSound.{step_keeps_sound}
use Rattle.machine_model.proofs.soundness.step_keeps_sound.Goals as goal

pub returns : goal.returns
returns c = step_keeps_sound
