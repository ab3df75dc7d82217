use Rattle.std.proofs.Common.{◌∙◌}
use Rattle.blur_core.proofs.ColumnSums.{no_rows}
use Rattle.blur_core.proofs.columns.square_means.Goals as goal

pub add_rows-requires-clause-nothing : goal.add_rows-requires-clause-nothing
add_rows-requires-clause-nothing c = no_rows c.args.pixels.now _ 0 _ c.deref_mut.result.now (c.deref_mut.ensures.value ∙ c.in_ok-columns.ensures)
