use Rattle.std.proofs.Common.{sym, ap, ◌∙◌, subst, arith, List, get_or}
use Rattle.std.specs.List.{All}
use Rattle.std.proofs.lemmas.List.Elements.{All-same, All-push}
use Rattle.walker_core.specs.declared.folds.Fold.{Fold}
use Rattle.desk_core.specs.Keeping.{Shows}
use Rattle.desk_core.proofs.KeptFolds.{item_of}
use Rattle.desk_core.proofs.folds.Folds.folds_on.Goals as goal
use Rattle.desk_core.proofs.folds.Folds.folds_on.Goals.{then-meets+in_ok-share+in_ok-push, else-meets}

pub loop-fold-preserved : goal.loop-fold-preserved
loop-fold-preserved c = elim c.if-meets.branch [
  | then-meets+in_ok-share+in_ok-push w ↦ λ x all. subst (λ (fs : List Fold). All (Shows x) fs) (λ i. (sym w.folds-is i).items)
      (All-same (Shows x) _ _ w.in_ok-push.ensures.items (All-push (Shows x) c.loop-fold.folds.items w.in_ok-share.field-0 (c.loop-fold.invariant x all)
      (subst (Shows x) (sym w.in_ok-share.ensures) (item_of (Shows x) c.args.self.now.folds.items c.loop-fold.fold-index c.fold-item.result (omega arith) (c.fold-item.is ∙ ap (λ (fs : List Fold). get_or fs c.loop-fold.fold-index c.fold-item.result) c.deref-fold-items.ensures.value) all))))
  | else-meets w ↦ λ x all. subst (λ (fs : List Fold). All (Shows x) fs) (λ i. (sym w.folds-is i).items) (c.loop-fold.invariant x all)
]
