use Rattle.std.proofs.Common.{refl, sym, subst}
use Rattle.machine_model.specs.Event.{Publish}
use Rattle.desk_events.specs.Sparing.{IsPriorAt}
use Rattle.desk_core.proofs.Tracking.{result_tracks}
use Rattle.desk_core.proofs.desk.Desk.exchange_one.Goals as goal

pub publish_whole-requires-clause-prior : goal.publish_whole-requires-clause-prior
publish_whole-requires-clause-prior c n e = subst (λ s. IsPriorAt s c.args.place n c.args.whole.now) (sym c.self.view_is) (c.requires.prior n e)

pub invariant_of-self : goal.invariant_of-self
invariant_of-self c = result_tracks c.publish_whole.result c.self.inside.machine c.publish_whole.new.self (Publish c.args.place c.args.whole.now.key) c.self.inside.damage.value c.self.inside.calm c.self.inside.folds.value refl c.publish_whole.ensures.ok c.publish_whole.ensures.err c.self.invariant
