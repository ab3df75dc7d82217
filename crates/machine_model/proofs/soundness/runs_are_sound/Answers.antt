use Rattle.machine_model.proofs.RunsSound.{runs_are_sound}
use Rattle.machine_model.proofs.soundness.runs_are_sound.Goals as goal

pub returns : goal.returns
returns c = runs_are_sound
