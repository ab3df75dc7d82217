use Rattle.compose_core.proofs.Pictures.{group_from_children}
use Rattle.compose_core.proofs.laws.group_of_pictures.Goals as goal

pub returns : goal.returns
returns c = group_from_children
