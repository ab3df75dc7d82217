use Rattle.std.proofs.Common.{subst}
use Rattle.doc_model.specs.Laws.{IsDocument}
use Rattle.desk_steps.specs.Archives.{Archive}
use Rattle.desk_steps.proofs.store.Store.tree.Goals as goal

pub returns-clause-limits : goal.returns-clause-limits
returns-clause-limits c = subst (λ (a : Archive). IsDocument a.present) c.self.view_is c.tree.ensures.known
