use Rattle.std.proofs.Common.{Some, sym, ap, ◌∙◌, subst}
use Rattle.machine_model.specs.State.{State}
use Rattle.desk_events.specs.Kept.{parts_of}
use Rattle.desk_events.specs.Commits.{TakesWhole}
use Rattle.desk_events.specs.Sparing.{AreFrom, IsPriorAt, SparesTile, StandsAs}
use Rattle.desk_events.proofs.Untouched.{stands_desk}
use Rattle.desk_events.proofs.machine.Machine.stands_as.Goals as goal

pub returns-then-since-least_at_work : goal.returns-then-since-least_at_work
returns-then-since-least_at_work c h = subst (λ s. StandsAs s c.args.whole.now) c.self.view_is
    (stands_desk (parts_of c.self.inside) c.args.place c.args.since c.least_at_work.result c.in-Some-Paint.painter c.args.whole.now c.self.invariant (sym c.in-Some-Paint.ensures ∙ ap Some c.in-Some-Paint.field-0-is)
    (subst (λ s. TakesWhole s c.args.place c.args.whole.now) (sym c.self.view_is) c.requires.takes)
    (subst (λ s. IsPriorAt s c.args.place c.args.since c.args.whole.now) (sym c.self.view_is) c.requires.prior)
    c.if-since-least_at_work.true c.least_at_work.ensures.low
    (subst (λ (s : State). AreFrom c.least_at_work.result s.slots) (sym c.self.view_is) c.least_at_work.ensures.all)
    (subst (λ s. SparesTile s c.args.since c.in-Some-Paint.painter.index c.args.whole.now.key) (sym c.self.view_is) (subst (λ k. SparesTile c.args.self.now c.args.since c.in-Some-Paint.painter.index k) c.key.ensures.value (c.spares.ensures h))))
