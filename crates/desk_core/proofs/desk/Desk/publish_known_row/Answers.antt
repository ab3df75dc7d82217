use Rattle.std.proofs.Common.{refl, sym, subst, ◌∙◌}
use Rattle.geom_core.proofs.Tests.{never}
use Rattle.desk_state.specs.Settles.{Settles}
use Rattle.desk_state.proofs.SettlingRuns.{canvas_stays, fed_stays}
use Rattle.desk_events.specs.Commits.{MayPublishRow}
use Rattle.desk_core.proofs.Committing.{row_settles}
use Rattle.desk_core.proofs.Telling.{row_tracks}
use Rattle.desk_core.proofs.desk.Desk.publish_known_row.Goals as goal

pub returns-then-not-may_publish_row-clause-answer : goal.returns-then-not-may_publish_row-clause-answer
returns-then-not-may_publish_row-clause-answer c = rw (← c.self.view_is) (λ m. never (sym c.if-not-may_publish_row.true ∙ c.may_publish_row.ensures.1 m), refl)

pub keep_folds-requires : goal.keep_folds-requires
keep_folds-requires c = subst (λ s. MayPublishRow s c.args.slot.place c.args.slot.serial c.args.composed.now c.args.key) c.self.view_is (c.may_publish_row.ensures.0 c.if-not-may_publish_row.false)

pub lay_walked_row-requires : goal.lay_walked_row-requires
lay_walked_row-requires c = subst (λ s. MayPublishRow s c.args.slot.place c.args.slot.serial c.args.composed.now c.args.key) (c.self.view_is ∙ sym c.keep_folds.ensures ∙ sym c.self-2.view_is) (c.may_publish_row.ensures.0 c.if-not-may_publish_row.false)

pub invariant_of-self : goal.invariant_of-self
invariant_of-self c = row_tracks c.args.slot.place _ c.self-2.inside.machine c.lay_walked_row.new.self c.self-2.inside.damage.value c.self-2.inside.calm c.self-2.inside.folds.value c.lay_walked_row.result c.lay_walked_row.ensures.all c.lay_walked_row.ensures.front c.self-2.invariant

pub invariant_of-self-2 : goal.invariant_of-self-2
invariant_of-self-2 c = row_tracks c.args.slot.place _ c.self-2.inside.machine c.lay_walked_row.new.self c.self-2.inside.damage.value c.self-2.inside.calm c.self-2.inside.folds.value c.lay_walked_row.result c.lay_walked_row.ensures.all c.lay_walked_row.ensures.front c.self-2.invariant

pub returns-in_err-lay_walked_row-clause-runs : goal.returns-in_err-lay_walked_row-clause-runs
returns-in_err-lay_walked_row-clause-runs c = subst (λ s. Settles s c.lay_walked_row.new.self) (c.self-2.view_is ∙ c.keep_folds.ensures) (row_settles c.args.slot.place c.args.key c.self-2.inside.machine c.lay_walked_row.new.self c.lay_walked_row.result c.lay_walked_row.ensures.all c.lay_walked_row.ensures.front)

pub returns-in_err-lay_walked_row-clause-canvas : goal.returns-in_err-lay_walked_row-clause-canvas
returns-in_err-lay_walked_row-clause-canvas c = canvas_stays (subst (λ s. Settles s c.lay_walked_row.new.self) (c.self-2.view_is ∙ c.keep_folds.ensures) (row_settles c.args.slot.place c.args.key c.self-2.inside.machine c.lay_walked_row.new.self c.lay_walked_row.result c.lay_walked_row.ensures.all c.lay_walked_row.ensures.front))

pub returns-in_err-lay_walked_row-clause-fed : goal.returns-in_err-lay_walked_row-clause-fed
returns-in_err-lay_walked_row-clause-fed c = fed_stays (subst (λ s. Settles s c.lay_walked_row.new.self) (c.self-2.view_is ∙ c.keep_folds.ensures) (row_settles c.args.slot.place c.args.key c.self-2.inside.machine c.lay_walked_row.new.self c.lay_walked_row.result c.lay_walked_row.ensures.all c.lay_walked_row.ensures.front))

pub returns-clause-runs : goal.returns-clause-runs
returns-clause-runs c = subst (λ s. Settles s c.lay_walked_row.new.self) (c.self-2.view_is ∙ c.keep_folds.ensures) (row_settles c.args.slot.place c.args.key c.self-2.inside.machine c.lay_walked_row.new.self c.lay_walked_row.result c.lay_walked_row.ensures.all c.lay_walked_row.ensures.front)

pub returns-clause-canvas : goal.returns-clause-canvas
returns-clause-canvas c = canvas_stays (subst (λ s. Settles s c.lay_walked_row.new.self) (c.self-2.view_is ∙ c.keep_folds.ensures) (row_settles c.args.slot.place c.args.key c.self-2.inside.machine c.lay_walked_row.new.self c.lay_walked_row.result c.lay_walked_row.ensures.all c.lay_walked_row.ensures.front))

pub returns-clause-fed : goal.returns-clause-fed
returns-clause-fed c = fed_stays (subst (λ s. Settles s c.lay_walked_row.new.self) (c.self-2.view_is ∙ c.keep_folds.ensures) (row_settles c.args.slot.place c.args.key c.self-2.inside.machine c.lay_walked_row.new.self c.lay_walked_row.result c.lay_walked_row.ensures.all c.lay_walked_row.ensures.front))
