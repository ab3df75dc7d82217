use Rattle.std.proofs.Common.{sym, ◌∙◌}
use Rattle.desk_core.proofs.folds.Folds.keep_within.Goals as goal

pub returns-then-lies_in-clause-folds : goal.returns-then-lies_in-clause-folds
returns-then-lies_in-clause-folds c x within all = c.keep_one.ensures.folds x (within c.if-fold-self.true (sym c.lies_in.ensures ∙ c.if-lies_in.true)) all
