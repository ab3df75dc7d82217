use Rattle.std.proofs.Common.{sym, subst}
use Rattle.std.proofs.lemmas.List.Elements.{All-same, All-push}
use Rattle.compose_core.specs.Spots.{IsSpot}
use Rattle.walker_core.specs.declared.folds.Fold.{Fold}
use Rattle.desk_core.specs.Keeping.{Shows}
use Rattle.desk_core.proofs.KeptFolds.{set_shows, set_spots}
use Rattle.desk_core.proofs.folds.Folds.keep_one.Goals as goal

pub returns-in-Some-clause-spots : goal.returns-in-Some-clause-spots
returns-in-Some-clause-spots c = set_spots c.args.self.now.folds.items c.in-Some.place c.index.result.now c.args.fold.now c.in_ok-self.field-0 c.in-Some.ensures.below c.index.ensures c.in-Some.ensures c.in_ok-self.ensures c.requires.own

pub returns-in-Some-clause-folds : goal.returns-in-Some-clause-folds
returns-in-Some-clause-folds c x shows all = set_shows c.args.self.now.folds.items c.in-Some.place c.index.result.now c.args.fold.now c.in_ok-self.field-0 c.in-Some.ensures.below c.index.ensures c.in-Some.ensures x c.in_ok-self.ensures shows all

pub returns-in_ok-push-clause-spots : goal.returns-in_ok-push-clause-spots
returns-in_ok-push-clause-spots c = All-same (λ (f : Fold). IsSpot f.spot) _ _ c.in_ok-push.ensures.items (All-push (λ (f : Fold). IsSpot f.spot) c.args.self.now.folds.items c.in_ok-share.field-0 c.requires.own (subst (λ (f : Fold). IsSpot f.spot) (sym c.in_ok-share.ensures) c.requires.one))

pub returns-in_ok-push-clause-folds : goal.returns-in_ok-push-clause-folds
returns-in_ok-push-clause-folds c x shows all = All-same (Shows x) _ _ c.in_ok-push.ensures.items (All-push (Shows x) c.args.self.now.folds.items c.in_ok-share.field-0 all (subst (Shows x) (sym c.in_ok-share.ensures) shows))
