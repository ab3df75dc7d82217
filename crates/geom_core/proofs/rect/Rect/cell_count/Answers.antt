use Rattle.std.proofs.Common.{sym}
use Rattle.geom_core.proofs.Parts.{count-cells_seen}
use Rattle.geom_core.proofs.rect.Rect.cell_count.Goals as goal

pub returns-clause-value : goal.returns-clause-value
returns-clause-value c = rw (← c.self.view_is, c.cells_along-cols.ensures.value, c.cells_along-rows.ensures.value) (sym (count-cells_seen c.self.inside c.self.invariant.0 c.self.invariant.1))
