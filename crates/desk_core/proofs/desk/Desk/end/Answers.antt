use Rattle.std.proofs.Common.{refl, sym, ◌∙◌}
use Rattle.machine_model.specs.Event.{End, WalkEnd}
use Rattle.desk_state.proofs.Ends.{ends_own, walk_ends_own}
use Rattle.desk_events.proofs.Ending.{job_is_end, walk_is_end, neither_ends}
use Rattle.desk_core.proofs.Tracking.{then_tracks}
use Rattle.desk_core.proofs.desk.Desk.end.Goals as goal
use Rattle.geom_core.proofs.Tests.{never}

pub invariant_of-self : goal.invariant_of-self
invariant_of-self c = then_tracks c.self.inside.machine c.end_job.new.self (End c.args.slot.place) c.self.inside.damage.value c.self.inside.calm c.self.inside.folds.value refl c.end_job.ensures c.self.invariant

pub end_job-requires : goal.end_job-requires
end_job-requires c = (c.is_complete.ensures.0 c.if-is_complete.true).enabled

pub end_walk-requires : goal.end_walk-requires
end_walk-requires c = rw (← c.self.view_is) (c.is_walked.ensures.0 c.if-is_walked.true).enabled

pub returns-then-is_complete-clause-taken : goal.returns-then-is_complete-clause-taken
returns-then-is_complete-clause-taken c = rw (← c.self.view_is) (λ e. job_is_end _ _ _ (c.is_complete.ensures.0 c.if-is_complete.true))

pub returns-then-is_complete-clause-done : goal.returns-then-is_complete-clause-done
returns-then-is_complete-clause-done c = rw (← c.self.view_is) (λ e. (End c.args.slot.place, ends_own c.args.slot.place, c.end_job.ensures))

pub returns-then-is_walked-clause-taken : goal.returns-then-is_walked-clause-taken
returns-then-is_walked-clause-taken c = rw (← c.self.view_is) (λ e. walk_is_end _ _ _ (c.is_walked.ensures.0 c.if-is_walked.true))

pub returns-then-is_walked-clause-done : goal.returns-then-is_walked-clause-done
returns-then-is_walked-clause-done c = λ e. (WalkEnd c.args.slot.place, walk_ends_own c.args.slot.place, c.end_walk.ensures)

pub returns-clause-refused : goal.returns-clause-refused
returns-clause-refused c = rw (← c.self.view_is) (λ e. neither_ends _ _ _ (λ m. never (sym c.if-is_complete.false ∙ c.is_complete.ensures.1 m)) (λ m. never (sym c.if-is_walked.false ∙ c.is_walked.ensures.1 m)))
