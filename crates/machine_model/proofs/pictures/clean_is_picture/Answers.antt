use Rattle.machine_model.proofs.RootPicture.{clean_is_picture}
use Rattle.machine_model.proofs.pictures.clean_is_picture.Goals as goal

pub returns : goal.returns
returns c = clean_is_picture
