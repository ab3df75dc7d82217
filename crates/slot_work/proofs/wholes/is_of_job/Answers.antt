use Rattle.std.proofs.Common.{◌≡◌, true, false, [], ◌∷◌, sym, subst, ◌∙◌}
use Rattle.geom_core.specs.Areas.{Area}
use Rattle.tile_core.specs.Shots.{Sight, SameShots}
use Rattle.slot_work.proofs.Lackings.{is_of, same_shots}
use Rattle.slot_work.proofs.wholes.is_of_job.Goals as goal

pub returns-then-same_as-clause-some : goal.returns-then-same_as-clause-some
returns-then-same_as-clause-some c h =
    is_of c.args.painter.now.job c.args.painter.now.shot c.args.whole.now c.requires.kept c.key-key.ensures.known (sym c.job.ensures.value ∙ c.same_as.ensures.0 c.if-same_as.true)
    (subst (λ (s : Sight). SameShots (c.args.whole.now.needs ∷ []) c.args.painter.now.shot s) c.base.ensures (subst (λ (a : Area). SameShots (a ∷ []) c.args.painter.now.shot c.base.result.now) c.needs.ensures (c.same_on.ensures.0 h)))

pub returns-then-same_as-clause-none : goal.returns-then-same_as-clause-none
returns-then-same_as-clause-none c h of =
    let t : c.same_on.result ≡ true = c.same_on.ensures.1 (subst (λ (a : Area). SameShots (a ∷ []) c.args.painter.now.shot c.base.result.now) (sym c.needs.ensures) (subst (λ (s : Sight). SameShots (c.args.whole.now.needs ∷ []) c.args.painter.now.shot s) (sym c.base.ensures)
    (same_shots c.args.painter.now.job c.args.painter.now.shot c.args.whole.now c.requires.kept c.key-key.ensures.known (sym c.job.ensures.value ∙ c.same_as.ensures.0 c.if-same_as.true) of))) in
    absurd (let f : true ≡ false = sym t ∙ h in cc)
