use Rattle.std.proofs.Common.{Some, sym, ap, ◌∙◌, subst}
use Rattle.machine_model.specs.Event.{Start}
use Rattle.desk_state.specs.Enabled.{Enabled}
use Rattle.desk_state.proofs.JobDoing.{below_whole, below_waiting}
use Rattle.desk_events.specs.Kept.{parts_of}
use Rattle.desk_events.proofs.machine.Machine.next_job.Goals as goal

pub job-requires-clause-last : goal.job-requires-clause-last
job-requires-clause-last c = below_waiting (parts_of c.self.inside) c.in-Some-Waiting.stroke c.args.place c.in-Some.index c.self.invariant (sym c.in-Some-Waiting.ensures.value ∙ ap Some c.in-Some-Waiting.field-0-is) (subst (λ s. Enabled s (Start c.args.place)) (sym c.self.view_is) c.requires) c.in-Some.is

pub job-requires-in-Some-Whole-clause-last : goal.job-requires-in-Some-Whole-clause-last
job-requires-in-Some-Whole-clause-last c = below_whole (parts_of c.self.inside) c.in-Some-Whole.stroke c.args.place c.in-Some.index c.self.invariant (sym c.in-Some-Whole.ensures.value ∙ ap Some c.in-Some-Whole.field-0-is) (subst (λ s. Enabled s (Start c.args.place)) (sym c.self.view_is) c.requires) c.in-Some.is
