use Rattle.std.proofs.Common.{ap, sym, ◌∙◌, subst, arith}
use Rattle.std.specs.Prelude.{IfSome}
use Rattle.std.proofs.lemmas.Bool.{OnTrue_from}
use Rattle.geom_core.specs.Areas.{Area}
use Rattle.update_queue.specs.Waiting.{Waiting, IsSpread}
use Rattle.update_queue.proofs.Spread.{spread_refreshed, spread_added}
use Rattle.update_queue.proofs.updates.Updates.is_spread_on.Goals as goal

pub returns-in-Some-clause-refreshed : goal.returns-in-Some-clause-refreshed
returns-in-Some-clause-refreshed c =
    let whole = subst (λ o. IfSome o (λ (a : Area). IsSpread a c.self.inside.patches.items)) c.in-Some.is c.self.invariant.2 in
    let is = ap (λ (w : Waiting). w.patches) c.self.view_is in
    OnTrue_from c.lies_in.result _ (λ h. spread_refreshed c.args.rect.now c.in-Some.spread c.args.self.now.patches (subst (IsSpread c.in-Some.spread) is whole)
    (omega (arith, c.w-columns.ensures.value, c.w-columns.ensures.some)) (omega (arith, c.h-rows.ensures.value, c.h-rows.ensures.some)) (sym c.lies_in.ensures ∙ h))

pub returns-in-Some-clause-added : goal.returns-in-Some-clause-added
returns-in-Some-clause-added c =
    let whole = subst (λ o. IfSome o (λ (a : Area). IsSpread a c.self.inside.patches.items)) c.in-Some.is c.self.invariant.2 in
    let is = ap (λ (w : Waiting). w.patches) c.self.view_is in
    OnTrue_from c.lies_in.result _ (λ h group. spread_added group c.args.rect.now c.in-Some.spread c.args.self.now.patches (subst (IsSpread c.in-Some.spread) is whole)
    (omega (arith, c.w-columns.ensures.value, c.w-columns.ensures.some)) (omega (arith, c.h-rows.ensures.value, c.h-rows.ensures.some)) (sym c.lies_in.ensures ∙ h))
