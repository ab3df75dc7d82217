use Rattle.machine_model.proofs.Forgets.{pixels_dont_count}
use Rattle.machine_model.proofs.blank.pixels_dont_count.Goals as goal

pub returns : goal.returns
returns c = pixels_dont_count
