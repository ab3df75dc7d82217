use Rattle.std.proofs.Common.{◌∙◌, ap, sym, subst, Option}
use Rattle.std.specs.Prelude.{IfSome}
use Rattle.std.specs.Borrow.{Bor}
use Rattle.compose_core.specs.Spots.{given_on}
use Rattle.walker_core.specs.declared.folds.Fold.{Fold}
use Rattle.walker_core.specs.Lower.{FoldsSources}
use Rattle.walker_core.proofs.LaidFolds.{known_laid}
use Rattle.walker_core.proofs.folds.lay_fold.Goals as goal

pub returns-then-lies_in-clause-laid : goal.returns-then-lies_in-clause-laid
returns-then-lies_in-clause-laid c = λ rect knows. known_laid rect c.args.below.now c.args.lower.now c.in-Some.fold.now c.args.spot.now.part c.start_from.new.self
    (subst (λ (o : Option (Bor Fold)). IfSome o (λ f. FoldsSources rect c.args.below.now c.args.lower.now.group c.args.lower.now.sources.now f.now)) c.in-Some.is knows)
    (sym c.lies_in.ensures ∙ c.if-lies_in.true)
    (λ p. c.in_ok-start_from.ensures.shows p ∙ ap (λ g. given_on g p) c.in_ok-share.ensures)
