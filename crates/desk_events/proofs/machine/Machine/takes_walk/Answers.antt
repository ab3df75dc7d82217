use Rattle.std.proofs.Common.{◌≤◌, ap, ◌∙◌, subst}
use Rattle.doc_model.specs.declared.canvas.Patch.{Patch}
use Rattle.desk_events.proofs.AtWork.{walk_takes, walk_taken}
use Rattle.desk_events.proofs.Exactly.{exactly, refuses}
use Rattle.desk_events.proofs.machine.Machine.takes_walk.Goals as goal

pub returns-in-Some : goal.returns-in-Some
returns-in-Some c = exactly c.takes_composed.result
    (λ h. walk_takes c.args.self.now c.args.slot.place c.args.slot.serial c.in-Some.walker.now c.args.composed.now c.args.group c.args.key
    (subst (λ n. 1 ≤ n) (c.w-columns.ensures.value ∙ ap (λ (q : Patch). q.rect.w) c.patch-rect.ensures) c.w-columns.ensures.some) (subst (λ n. 1 ≤ n) (c.h-rows.ensures.value ∙ ap (λ (q : Patch). q.rect.h) c.patch-rect.ensures) c.h-rows.ensures.some)
    c.in-Some.ensures.some (c.takes_composed.ensures.some h))
    (λ h t. c.takes_composed.ensures.none h (walk_taken c.args.self.now c.args.slot.place c.args.slot.serial c.in-Some.walker.now c.args.composed.now c.args.group c.args.key c.in-Some.ensures.some t))

pub returns-in-None : goal.returns-in-None
returns-in-None c = refuses (λ t. c.in-None.ensures.none t.walker t.runs t.drawn)
