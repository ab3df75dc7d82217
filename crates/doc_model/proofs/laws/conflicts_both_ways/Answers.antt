use Rattle.doc_model.proofs.BothWays.{conflicts_both_ways}
use Rattle.doc_model.proofs.laws.conflicts_both_ways.Goals as goal

pub returns : goal.returns
returns c = conflicts_both_ways
