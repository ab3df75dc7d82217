use Rattle.std.proofs.Common.{◌≡◌, ◌+◌, ◌++◌, length, take, map}
use Rattle.tree_core.specs.Nodes.{rows_of}
use Rattle.tree_core.specs.Exchanges.{brought}
use Rattle.tree_core.proofs.turn.bring.Given as goal

abbrev pub invariant-loop-n : goal.invariant-loop-n
invariant-loop-n l = record {
  rows : rows_of l.all.items ≡ rows_of l.initial.all.items ++ map (brought l.lot) (rows_of (take l.n-index l.nodes));
  count : length l.all.items ≡ length l.initial.all.items + l.n-index;
}
