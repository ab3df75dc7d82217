use Rattle.std.proofs.Common.{sym}
use Rattle.desk_state.specs.Parts.{walker_of}
use Rattle.desk_state.specs.After.{busy_walker}
use Rattle.trace_out.proofs.Ties.{lent_runs}
use Rattle.trace_out.proofs.Enabling.{walk_may_end}
use Rattle.trace_out.proofs.scribe.Scribe.compose_at.Goals as goal

pub publish_groups-requires-clause-lacks : goal.publish_groups-requires-clause-lacks
publish_groups-requires-clause-lacks c = record { on_path = c.in-Some.ensures.group; world = c.in-Some.ensures.world; in_patch = c.in-Some.ensures.tile; fresh = c.in-Some.ensures.fresh }

pub end-requires : goal.end-requires
end-requires c = record {
  work = busy_walker c.args.walker;
  lent = c.requires;
  may = walk_may_end c.args.self.now.desk c.args.place (walker_of c.args.walker) (lent_runs c.args.self.now.held c.args.place (busy_walker c.args.walker) c.args.self.now.desk c.requires) (sym c.in-None.ensures.none);
}
