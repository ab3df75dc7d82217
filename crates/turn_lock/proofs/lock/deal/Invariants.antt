use Rattle.std.proofs.Common.{◌≡◌, ◌-◌, []}
use Rattle.turn_lock.specs.Turns.{start_view}
use Rattle.turn_lock.specs.Passes.{all_fresh}
use Rattle.turn_lock.proofs.lock.deal.Given as goal

abbrev pub invariant-loop-number : goal.invariant-loop-number
invariant-loop-number g l = record {
  table : l.seat.table_id ≡ l.initial.seat.table_id;
  seat : l.seat.me ≡ (start_view l.number (l.artists - l.number), []);
  passes : l.passes.items ≡ all_fresh l.table.table_id l.number;
}
