use Rattle.machine_model.proofs.ExportedFrames.{export_is_frame}
use Rattle.machine_model.proofs.pictures.export_is_frame.Goals as goal

pub returns : goal.returns
returns c = export_is_frame
