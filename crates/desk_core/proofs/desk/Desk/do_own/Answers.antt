use Rattle.std.proofs.Common.{refl}
use Rattle.machine_model.specs.Event.{Publish, End, WalkEnd}
use Rattle.desk_state.proofs.SettlingRuns.{goes_on}
use Rattle.desk_events.proofs.OwnTiles.{tile_goes}
use Rattle.desk_core.proofs.Telling.{walks_track}
use Rattle.desk_core.proofs.Tracking.{then_tracks, result_tracks}
use Rattle.desk_core.proofs.desk.Desk.do_own.Goals as goal

pub invariant_of-self : goal.invariant_of-self
invariant_of-self c = result_tracks c.paint_at.result c.self.inside.machine c.paint_at.new.self (Publish c.args.place c.in-Tile.key) c.self.inside.damage.value c.self.inside.calm c.self.inside.folds.value refl c.paint_at.ensures.ok c.paint_at.ensures.err c.self.invariant

pub invariant_of-self-in-Groups : goal.invariant_of-self-in-Groups
invariant_of-self-in-Groups c = walks_track c.self.inside.machine c.compose_at.new.self c.self.inside.damage.value c.self.inside.calm c.self.inside.folds.value c.compose_at.ensures.walks c.self.invariant

pub invariant_of-self-in-JobEnd : goal.invariant_of-self-in-JobEnd
invariant_of-self-in-JobEnd c = then_tracks c.self.inside.machine c.end_job.new.self (End c.args.place) c.self.inside.damage.value c.self.inside.calm c.self.inside.folds.value refl c.end_job.ensures c.self.invariant

pub end_walk-requires : goal.end_walk-requires
end_walk-requires c = rw (← c.self.view_is) c.in-WalkEnd.ensures

pub returns-in-Tile-clause-ok : goal.returns-in-Tile-clause-ok
returns-in-Tile-clause-ok c = rw (← c.self.view_is) (tile_goes c.paint_at.result c.self.inside.machine c.paint_at.new.self c.args.place c.in-Tile.key c.paint_at.ensures.ok)

pub returns-in-JobEnd-clause-ok : goal.returns-in-JobEnd-clause-ok
returns-in-JobEnd-clause-ok c = rw (← c.self.view_is) (goes_on c.self.inside.machine c.end_job.new.self (End c.args.place) refl c.end_job.ensures)

pub returns-in-WalkEnd-clause-ok : goal.returns-in-WalkEnd-clause-ok
returns-in-WalkEnd-clause-ok c = goes_on c.args.self.now c.end_walk.new.self (WalkEnd c.args.place) refl c.end_walk.ensures
