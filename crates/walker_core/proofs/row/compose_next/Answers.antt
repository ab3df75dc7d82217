use Rattle.std.proofs.Common.{◌∙◌, sym, ap, subst, length}
use Rattle.std.specs.Prelude.{IfSome}
use Rattle.std.proofs.lemmas.Result.{IfOk-weaker}
use Rattle.geom_core.specs.Areas.{holds}
use Rattle.doc_model.specs.declared.canvas.Patch.{Patch}
use Rattle.doc_model.specs.Shots.{in_tile}
use Rattle.walker_core.specs.declared.row.Made.{Made}
use Rattle.walker_core.specs.Folds.{IsFoldOn}
use Rattle.walker_core.specs.Knowing.{IsKept}
use Rattle.walker_core.specs.Rows.{AreComposed}
use Rattle.walker_core.proofs.Kept.{either_way}
use Rattle.walker_core.proofs.row.compose_next.Goals as goal

pub compose_group-requires-clause-below : goal.compose_group-requires-clause-below
compose_group-requires-clause-below c = subst (λ k. AreComposed c.args.inputs.now k c.args.below.now) (sym c.new-spot.ensures.key) c.requires.below

pub returns-in-Nothing-clause-given : goal.returns-in-Nothing-clause-given
returns-in-Nothing-clause-given c = IfOk-weaker c.compose_group.result _ _
    (λ m is p h k.
    let inside = ap (λ q. in_tile q p) c.new-spot.ensures.key ∙ k in
    is p h inside (c.new-spot.ensures.catches p (ap (λ (q : Patch). holds q.rect p) c.patch.ensures ∙ h) inside))
    c.compose_group.ensures.given

pub returns-in-Nothing-clause-fold : goal.returns-in-Nothing-clause-fold
returns-in-Nothing-clause-fold c = IfOk-weaker c.compose_group.result _ _
    (λ (m : Made) is. subst (λ k. IfSome m.fold (IsFoldOn c.args.inputs.now k)) c.new-spot.ensures.key is)
    c.compose_group.ensures.fold

pub returns-in_ok-overlaid-in-Outside-clause-given : goal.returns-in_ok-overlaid-in-Outside-clause-given
returns-in_ok-overlaid-in-Outside-clause-given c =
    let all : IsKept c.args.inputs.now (length c.args.below.now.given.now) c.args.key c.in_ok-kept.field-0 = c.in_ok-kept.ensures in
    let known = subst (IsKept c.args.inputs.now (length c.args.below.now.given.now) c.args.key) c.in-Outside.is all in
    λ p h k.
    let inside = ap (λ q. in_tile q p) known.1 ∙ k in
    c.in_ok-overlaid-in-Outside.ensures p inside ∙ either_way (holds c.in-Outside.spot.part p) _ _ _ (λ e. c.in_ok-fresh-in-Outside.ensures.given p h inside e) (λ e. known.2 p h k e)

pub returns-in_ok-overlaid-in-Outside-clause-fold : goal.returns-in_ok-overlaid-in-Outside-clause-fold
returns-in_ok-overlaid-in-Outside-clause-fold c =
    let all : IsKept c.args.inputs.now (length c.args.below.now.given.now) c.args.key c.in_ok-kept.field-0 = c.in_ok-kept.ensures in
    let known = subst (IsKept c.args.inputs.now (length c.args.below.now.given.now) c.args.key) c.in-Outside.is all in
    subst (λ k. IfSome c.in_ok-fresh-in-Outside.fresh.fold (IsFoldOn c.args.inputs.now k)) known.1 c.in_ok-fresh-in-Outside.ensures.fold
