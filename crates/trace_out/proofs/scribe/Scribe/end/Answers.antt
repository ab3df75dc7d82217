use Rattle.std.proofs.Common.{sym}
use Rattle.trace_out.proofs.Fits.{place_fits}
use Rattle.trace_out.proofs.Going.{orderly_by}
use Rattle.trace_out.proofs.AtOnce.{end_written}
use Rattle.trace_out.proofs.scribe.Scribe.end.Goals as goal

pub unreachable-requires : goal.unreachable-requires
unreachable-requires c = c.end.ensures.refused c.in-Nothing.is c.requires.may

pub returns : goal.returns
returns c = end_written c.args.self.now.desk c.args.slot.place c.requires.work c.args.self.now.out.items (record c.args.self.now { desk = c.end.new.self; out = c.add_line.new.out }) c.requires.lent (place_fits c.args.self.now.desk c.args.slot.place _ (orderly_by c.requires.lent.tied) c.requires.may.here) (c.end.ensures.done c.in-Done.is) c.in_ok-add_line-in-Done.ensures
