use Rattle.desk_state.proofs.SettlingRuns.{canvas_stays, fed_stays}
use Rattle.desk_core.proofs.Committing.{commit_settles}
use Rattle.desk_core.proofs.desk.Desk.commit_made.Goals as goal

pub returns-clause-runs : goal.returns-clause-runs
returns-clause-runs c = commit_settles c.args.slot.place c.args.slot.serial c.args.tiles.now c.args.self.now c.commit_by.new.self c.commit_by.result c.commit_by.ensures

pub returns-clause-canvas : goal.returns-clause-canvas
returns-clause-canvas c = canvas_stays (commit_settles c.args.slot.place c.args.slot.serial c.args.tiles.now c.args.self.now c.commit_by.new.self c.commit_by.result c.commit_by.ensures)

pub returns-clause-fed : goal.returns-clause-fed
returns-clause-fed c = fed_stays (commit_settles c.args.slot.place c.args.slot.serial c.args.tiles.now c.args.self.now c.commit_by.new.self c.commit_by.result c.commit_by.ensures)
