use Rattle.std.proofs.Common.{ap, ◌∙◌}
use Rattle.tree_core.specs.Nodes.{rows_of}
use Rattle.tree_core.proofs.Turned.{turned_rows}
use Rattle.tree_core.proofs.turn.turned.Goals as goal

pub returns : goal.returns
returns c = turned_rows c.args.turn c.args.nodes.now c.replaced.result.items c.as_slice.result.now c.bring.new.all.items c.new-parts.result.items c.new-parts.ensures c.replaced.ensures c.bring.ensures.rows (ap rows_of c.as_slice.ensures.value ∙ c.bring-2.ensures.rows)
