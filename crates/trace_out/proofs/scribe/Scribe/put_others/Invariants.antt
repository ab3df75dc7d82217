use Rattle.trace_out.specs.Lent.{IsLentWalk}
use Rattle.trace_out.specs.Goes.{SettlesPutting}
use Rattle.trace_out.proofs.scribe.Scribe.put_others.Given as goal

-- the groups so far are published
abbrev pub invariant-loop-group : goal.invariant-loop-group
invariant-loop-group l = record {
  goes : SettlesPutting l.initial.self.desk l.initial.self.out.items l.self.desk l.self.out.items;
  lent : IsLentWalk l.self.held l.slot l.composed l.published l.self.desk;
}
