use Rattle.machine_model.proofs.ExportedFrames.{clean_is_frame}
use Rattle.machine_model.proofs.pictures.clean_is_frame.Goals as goal

pub returns : goal.returns
returns c = clean_is_frame
