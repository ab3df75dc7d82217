use Rattle.std.proofs.Common.{◌≡◌, take}
use Rattle.trace_out.specs.Writing.{IsTied, Writes}
use Rattle.trace_out.proofs.trace.feed_all.Given as goal

-- the first commands were fed
abbrev pub invariant-loop-i : goal.invariant-loop-i
invariant-loop-i g l = record {
  fed : l.scribe.desk.fed ≡ take l.i l.commands;
  writes : Writes l.initial.scribe.desk l.initial.scribe.out.items l.scribe.desk l.scribe.out.items;
  tied : IsTied l.scribe.held l.scribe.desk;
}
