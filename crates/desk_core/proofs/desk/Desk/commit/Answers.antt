use Rattle.std.proofs.Common.{refl, sym, ◌∙◌}
use Rattle.geom_core.proofs.Tests.{never}
use Rattle.desk_events.proofs.Committing.{lacking_made, made_of_work}
use Rattle.desk_state.proofs.SettlingRuns.{canvas_stays, fed_stays}
use Rattle.desk_core.proofs.Committing.{commit_settles}
use Rattle.desk_core.proofs.desk.Desk.commit.Goals as goal

pub returns-then-not-are_of_work-clause-answer : goal.returns-then-not-are_of_work-clause-answer
returns-then-not-are_of_work-clause-answer c = rw (← c.self.view_is) (
  λ may. never (sym c.if-not-are_of_work.true ∙ c.are_of_work.ensures.1 (lacking_made c.self.inside.machine c.args.slot.place c.args.slot.serial c.args.tiles.now may)),
  refl,
)

pub commit_by-requires-clause-of : goal.commit_by-requires-clause-of
commit_by-requires-clause-of c = rw (← c.self.view_is) (made_of_work c.self.inside.machine c.args.slot.place c.args.slot.serial c.args.tiles.now (c.are_of_work.ensures.0 c.if-not-are_of_work.false))

pub returns-clause-runs : goal.returns-clause-runs
returns-clause-runs c = commit_settles c.args.slot.place c.args.slot.serial c.args.tiles.now c.args.self.now c.commit_by.new.self c.commit_by.result c.commit_by.ensures

pub returns-clause-canvas : goal.returns-clause-canvas
returns-clause-canvas c = canvas_stays (commit_settles c.args.slot.place c.args.slot.serial c.args.tiles.now c.args.self.now c.commit_by.new.self c.commit_by.result c.commit_by.ensures)

pub returns-clause-fed : goal.returns-clause-fed
returns-clause-fed c = fed_stays (commit_settles c.args.slot.place c.args.slot.serial c.args.tiles.now c.args.self.now c.commit_by.new.self c.commit_by.result c.commit_by.ensures)
