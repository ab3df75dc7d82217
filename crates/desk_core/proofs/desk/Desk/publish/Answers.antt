use Rattle.std.proofs.Common.{refl, sym, ◌∙◌}
use Rattle.machine_model.specs.Event.{Publish}
use Rattle.desk_core.proofs.Painting.{jobs_value}
use Rattle.desk_core.proofs.Tracking.{result_tracks}
use Rattle.geom_core.proofs.Tests.{never}
use Rattle.desk_core.proofs.desk.Desk.publish.Goals as goal

pub lay-requires : goal.lay-requires
lay-requires c = c.takes.ensures.0 c.if-not-takes.false

pub returns-then-not-takes-clause-refused : goal.returns-then-not-takes-clause-refused
returns-then-not-takes-clause-refused c = rw (← c.self.view_is) (λ e m. never (sym c.if-not-takes.true ∙ c.takes.ensures.1 m))

pub invariant_of-self-2 : goal.invariant_of-self-2
invariant_of-self-2 c = result_tracks c.lay.result c.self.inside.machine c.lay.new.self (Publish c.args.slot.place c.args.painted.now.key) c.self.inside.damage.value c.self.inside.calm c.self.inside.folds.value refl c.lay.ensures.ok c.lay.ensures.err c.self.invariant

pub returns-clause-taken : goal.returns-clause-taken
returns-clause-taken c = rw (← c.self.view_is) (λ e. c.takes.ensures.0 c.if-not-takes.false)

pub returns-clause-value : goal.returns-clause-value
returns-clause-value c = rw (← c.self.view_is) (λ e. jobs_value _ _ _ _ (c.takes.ensures.0 c.if-not-takes.false) c.key-key.ensures.known)
