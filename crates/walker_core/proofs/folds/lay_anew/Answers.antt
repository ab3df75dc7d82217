use Rattle.std.proofs.Common.{◌∙◌, ap}
use Rattle.compose_core.specs.Spots.{given_on}
use Rattle.walker_core.proofs.LaidFolds.{either_laid, first_laid}
use Rattle.walker_core.proofs.folds.lay_anew.Goals as goal

pub returns-then-len-lt-WORTH-clause-laid : goal.returns-then-len-lt-WORTH-clause-laid
returns-then-len-lt-WORTH-clause-laid c = λ rect knows. first_laid rect c.args.below.now c.args.lower.now.group c.args.lower.now.sources.now c.args.spot.now c.args.pile.now c.lay_sources.new.pile c.requires.spot c.requires.empty (c.in_ok-lay_sources.ensures.laid rect)

pub returns-clause-laid : goal.returns-clause-laid
returns-clause-laid c = λ rect knows p h q. c.in_ok-start_from.ensures.shows p ∙ ap (λ g. given_on g p) c.in_ok-share.ensures
    ∙ either_laid rect c.args.below.now c.args.lower.now c.args.spot.now.part c.lay_sources.new.pile c.in_ok-given.given c.in_ok-given.ensures
    (first_laid rect c.args.below.now c.args.lower.now.group c.args.lower.now.sources.now c.args.spot.now c.args.pile.now c.lay_sources.new.pile c.requires.spot c.requires.empty (c.in_ok-lay_sources.ensures.laid rect)) knows p h q

pub returns-clause-fold : goal.returns-clause-fold
returns-clause-fold c = λ rect knows. either_laid rect c.args.below.now c.args.lower.now c.args.spot.now.part c.lay_sources.new.pile c.in_ok-given.given c.in_ok-given.ensures
    (first_laid rect c.args.below.now c.args.lower.now.group c.args.lower.now.sources.now c.args.spot.now c.args.pile.now c.lay_sources.new.pile c.requires.spot c.requires.empty (c.in_ok-lay_sources.ensures.laid rect)) knows
