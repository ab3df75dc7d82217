use Rattle.std.proofs.Common.{◌∙◌, arith}
use Rattle.compose_core.specs.Spots.{IsSpot}
use Rattle.walker_core.specs.declared.folds.Fold.{Fold}
use Rattle.desk_core.proofs.KeptFolds.{item_of, keep_more}
use Rattle.desk_core.proofs.folds.Folds.keep.Goals as goal

pub keep_within-requires-clause-one : goal.keep_within-requires-clause-one
keep_within-requires-clause-one c = item_of (λ (f : Fold). IsSpot f.spot) c.args.made.now c.loop-fold.fold-index c.fold-item.result (omega arith) c.fold-item.is c.requires.made

pub keep_within-requires-clause-own : goal.keep_within-requires-clause-own
keep_within-requires-clause-own c = c.loop-fold.invariant.0

pub returns-in_err-keep_within-clause-layer : goal.returns-in_err-keep_within-clause-layer
returns-in_err-keep_within-clause-layer c = c.keep_within.ensures.layer ∙ c.loop-fold.invariant.1

pub returns-in_err-keep_within-clause-walk : goal.returns-in_err-keep_within-clause-walk
returns-in_err-keep_within-clause-walk c = c.keep_within.ensures.walk ∙ c.loop-fold.invariant.2

pub returns-in_err-keep_within-clause-since : goal.returns-in_err-keep_within-clause-since
returns-in_err-keep_within-clause-since c = c.keep_within.ensures.since ∙ c.loop-fold.invariant.3

pub returns-in_err-keep_within-clause-folds : goal.returns-in_err-keep_within-clause-folds
returns-in_err-keep_within-clause-folds c x = keep_more x c.args.self.now.layer c.loop-fold.self.layer c.args.rect.now c.args.made.now c.loop-fold.fold-index c.fold-item.result c.args.self.now.folds.items c.loop-fold.self.folds.items c.keep_within.new.self.folds.items (omega arith) c.fold-item.is c.loop-fold.invariant.1 (c.keep_within.ensures.folds x) (c.loop-fold.invariant.4 x)

pub loop-fold-preserved : goal.loop-fold-preserved
loop-fold-preserved c = (
  c.keep_within.ensures.spots,
  c.keep_within.ensures.layer ∙ c.loop-fold.invariant.1,
  c.keep_within.ensures.walk ∙ c.loop-fold.invariant.2,
  c.keep_within.ensures.since ∙ c.loop-fold.invariant.3,
  (λ x. keep_more x c.args.self.now.layer c.loop-fold.self.layer c.args.rect.now c.args.made.now c.loop-fold.fold-index c.fold-item.result c.args.self.now.folds.items c.loop-fold.self.folds.items c.keep_within.new.self.folds.items (omega arith) c.fold-item.is c.loop-fold.invariant.1 (c.keep_within.ensures.folds x) (c.loop-fold.invariant.4 x)),
)
