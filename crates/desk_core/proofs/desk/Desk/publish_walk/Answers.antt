use Rattle.std.proofs.Common.{refl, sym, ◌∙◌}
use Rattle.machine_model.specs.Event.{WalkPublish}
use Rattle.desk_core.proofs.Tracking.{result_tracks}
use Rattle.geom_core.proofs.Tests.{never}
use Rattle.desk_core.proofs.desk.Desk.publish_walk.Goals as goal

pub lay_walk-requires : goal.lay_walk-requires
lay_walk-requires c = c.takes_walk.ensures.0 c.if-not-takes_walk.false

pub returns-then-not-takes_walk-clause-refused : goal.returns-then-not-takes_walk-clause-refused
returns-then-not-takes_walk-clause-refused c = rw (← c.self.view_is) (λ e m. never (sym c.if-not-takes_walk.true ∙ c.takes_walk.ensures.1 m))

pub invariant_of-self-2 : goal.invariant_of-self-2
invariant_of-self-2 c = result_tracks c.lay_walk.result c.self.inside.machine c.lay_walk.new.self (WalkPublish c.args.slot.place c.args.group c.args.key) c.self.inside.damage.value c.self.inside.calm c.self.inside.folds.value refl c.lay_walk.ensures.ok c.lay_walk.ensures.err c.self.invariant

pub returns-clause-taken : goal.returns-clause-taken
returns-clause-taken c = rw (← c.self.view_is) (λ e. c.takes_walk.ensures.0 c.if-not-takes_walk.false)
