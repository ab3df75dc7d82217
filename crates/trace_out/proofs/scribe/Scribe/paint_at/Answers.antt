use Rattle.std.proofs.Common.{sym}
use Rattle.desk_state.specs.Parts.{painter_of}
use Rattle.desk_state.specs.After.{busy_painter}
use Rattle.trace_out.proofs.Ties.{lent_runs}
use Rattle.trace_out.proofs.Enabling.{lent_kept, job_may_end}
use Rattle.trace_out.proofs.Going.{orderly_by}
use Rattle.trace_out.proofs.scribe.Scribe.paint_at.Goals as goal

pub next_tile-requires : goal.next_tile-requires
next_tile-requires c = (lent_kept c.args.self.now.held c.args.place (busy_painter c.args.painter) c.args.self.now.desk c.requires).2

pub publish-requires-clause-lacks : goal.publish-requires-clause-lacks
publish-requires-clause-lacks c = record { in_job = c.in-Some.ensures.some.0; fresh = c.in-Some.ensures.some.1 }

pub end-requires : goal.end-requires
end-requires c = record {
  work = busy_painter c.args.painter;
  lent = c.requires;
  may = job_may_end c.args.self.now.desk c.args.place (painter_of c.args.painter) (orderly_by c.requires.tied) (lent_runs c.args.self.now.held c.args.place (busy_painter c.args.painter) c.args.self.now.desk c.requires) (sym c.in-None.ensures.none);
}
