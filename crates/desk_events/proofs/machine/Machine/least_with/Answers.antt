use Rattle.std.proofs.Common.{Some, sym, ap, ◌∙◌, arith}
use Rattle.std.specs.Prelude.{slice_get}
use Rattle.machine_model.specs.State.{State}
use Rattle.desk_state.proofs.Taking.{job_at_walk, job_at_none}
use Rattle.desk_events.specs.Kept.{parts_of}
use Rattle.desk_events.proofs.Untouched.{index_is}
use Rattle.desk_events.proofs.machine.Machine.least_with.Goals as goal

pub returns-in-Some-Paint-clause-at : goal.returns-in-Some-Paint-clause-at
returns-in-Some-Paint-clause-at c w at =
    let e = index_is (parts_of c.self.inside) c.args.place c.in-Some-Paint.painter w (sym c.in-Some-Paint.ensures ∙ ap Some c.in-Some-Paint.field-0-is) (ap (λ (s : State). slice_get s.slots c.args.place) c.self.view_is ∙ at) in
    omega (arith, e)

pub returns-in-Some-Walk-clause-at : goal.returns-in-Some-Walk-clause-at
returns-in-Some-Walk-clause-at c w at = absurd (job_at_walk (parts_of c.self.inside) c.args.place _ w (sym c.in-Some-Walk.ensures ∙ ap Some c.in-Some-Walk.field-0-is) (ap (λ (s : State). slice_get s.slots c.args.place) c.self.view_is ∙ at))

pub returns-in-None-clause-at : goal.returns-in-None-clause-at
returns-in-None-clause-at c w at = absurd (job_at_none (parts_of c.self.inside) c.args.place w (sym c.in-None.ensures) (ap (λ (s : State). slice_get s.slots c.args.place) c.self.view_is ∙ at))
