use Rattle.std.proofs.Common.{refl, arith}
use Rattle.walker_core.specs.Composing.{tiles_in}
use Rattle.walker_core.proofs.RowLists.{keys_next}
use Rattle.walker_core.proofs.composed.compose_keys.Goals as goal

pub loop-i-preserved : goal.loop-i-preserved
loop-i-preserved c = (
  keys_next (tiles_in c.loop-i.rows) (tiles_in c.compose_on.new.self) c.args.keys.now _ c.loop-i.i _ c.in_ok-compose_on.ensures.ok c.loop-i.invariant.0 (omega arith) refl,
  c.in_ok-compose_on.ensures.of,
)
