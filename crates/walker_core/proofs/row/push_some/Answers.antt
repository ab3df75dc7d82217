use Rattle.std.proofs.Common.{[], ◌∷◌, ◌++◌, subst}
use Rattle.std.specs.Prelude.{IfSome}
use Rattle.std.proofs.lemmas.List.Elements.{All-push, All-same}
use Rattle.walker_core.specs.Folds.{IsFoldOn}
use Rattle.walker_core.proofs.row.push_some.Goals as goal

pub returns-in_ok-push-in-Some : goal.returns-in_ok-push-in-Some
returns-in_ok-push-in-Some c = λ r key all is. All-same (IsFoldOn r key) c.push.new.self.items (c.args.folds.now.items ++ c.in-Some.fold ∷ []) c.in_ok-push-in-Some.ensures.items
    (All-push (IsFoldOn r key) c.args.folds.now.items c.in-Some.fold all (subst (λ o. IfSome o (IsFoldOn r key)) c.in-Some.is is))
