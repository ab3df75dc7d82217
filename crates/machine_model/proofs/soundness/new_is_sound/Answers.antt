use Rattle.machine_model.proofs.RunsSound.{new_sound}
use Rattle.machine_model.proofs.soundness.new_is_sound.Goals as goal

pub returns : goal.returns
returns c = new_sound
