use Rattle.std.proofs.Common.{refl, sym, ◌∙◌, subst}
use Rattle.geom_core.proofs.Tests.{never}
use Rattle.machine_model.specs.Event.{End}
use Rattle.machine_model.specs.Step.{Step}
use Rattle.desk_events.specs.Commits.{MayCommit}
use Rattle.desk_core.proofs.Committing.{brings_err, no_tile}
use Rattle.desk_core.proofs.Tracking.{then_tracks}
use Rattle.desk_core.proofs.desk.Desk.commit_by.Goals as goal

pub exchange_all-requires-clause-commits : goal.exchange_all-requires-clause-commits
exchange_all-requires-clause-commits c = rw (← c.self.view_is) (c.in_ok-commits.ensures.0 c.if-not-commits.false)

pub exchange_all-requires-clause-prior : goal.exchange_all-requires-clause-prior
exchange_all-requires-clause-prior c = c.requires.prior

pub invariant_of-self : goal.invariant_of-self
invariant_of-self c = then_tracks c.self-2.inside.machine c.end_job.new.self (End c.args.slot.place) c.self-2.inside.damage.value c.self-2.inside.calm c.self-2.inside.folds.value refl c.end_job.ensures c.self-2.invariant

pub returns-in_err-commits : goal.returns-in_err-commits
returns-in_err-commits c = rw (← c.self.view_is) (brings_err _ _ _ _ _ c.from_residual.ensures.0 (no_tile c.args.slot.place c.args.tiles.now c.self.inside.machine))

pub returns-then-not-commits : goal.returns-then-not-commits
returns-then-not-commits c = rw (← c.self.view_is) (λ m. never (sym c.if-not-commits.true ∙ c.in_ok-commits.ensures.1 m), refl)

pub returns-in_err-exchange_all : goal.returns-in_err-exchange_all
returns-in_err-exchange_all c = brings_err _ _ _ _ _ c.from_residual-in_err-exchange_all.ensures.0 c.exchange_all.ensures.front

pub returns : goal.returns
returns c = (
  subst (λ s. MayCommit s c.args.slot.place c.args.slot.serial c.args.tiles.now) c.self.view_is (c.in_ok-commits.ensures.0 c.if-not-commits.false),
  c.in_ok-exchange_all.ensures.all c.end_job.new.self (subst (λ s. Step s (End c.args.slot.place) c.end_job.new.self) c.self-2.view_is c.end_job.ensures),
)
