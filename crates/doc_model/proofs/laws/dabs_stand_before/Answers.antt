use Rattle.doc_model.proofs.Gaps.{dabs_stand_before}
use Rattle.doc_model.proofs.laws.dabs_stand_before.Goals as goal

pub returns : goal.returns
returns c = dabs_stand_before
