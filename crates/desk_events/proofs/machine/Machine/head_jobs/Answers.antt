use Rattle.std.proofs.Common.{ap, ◌∙◌}
use Rattle.machine_model.specs.State.{head_stroke}
use Rattle.desk_events.specs.Kept.{parts_of}
use Rattle.desk_state.proofs.Heads.{queued_jobs}
use Rattle.desk_events.proofs.machine.Machine.head_jobs.Goals as goal

pub returns-clause-value : goal.returns-clause-value
returns-clause-value c t h = c.head_jobs.ensures.value ∙ queued_jobs (parts_of c.self.inside) t c.self.invariant (ap head_stroke c.self.view_is ∙ h)
