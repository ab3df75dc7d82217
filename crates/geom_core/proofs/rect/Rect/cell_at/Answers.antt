use Rattle.std.proofs.Common.{◌<◌, ◌/◌, ◌+◌, ◌*◌, arith}
use Rattle.geom_core.proofs.Counts.{parted}
use Rattle.geom_core.proofs.Parts.{at-cells_seen, below_cells, cell_room, cell_count_of, cell_met}
use Rattle.geom_core.proofs.rect.Rect.cell_at.Goals as goal

below : (c : goal.After-cells_along-cols) → c.args.i < c.cells_along-cols.result * cell_count_of c.self.inside.top c.self.inside.h
below c = below_cells c.self.inside c.args.self.now c.cells_along-cols.result c.args.i c.self.view_is c.self.invariant.0 c.self.invariant.1 c.cells_along-cols.ensures.value c.requires

room : (c : goal.After-cells_along-cols) → c.self.inside.top / 256 + c.args.i / c.cells_along-cols.result < 128
room c = cell_room c.self.inside.top c.self.inside.h (c.args.i / c.cells_along-cols.result) c.self.invariant.1 c.self.invariant.3
    (parted c.cells_along-cols.result (cell_count_of c.self.inside.top c.self.inside.h) c.args.i (below c)).1.0

pub overflow_add-self-inside-2 : goal.overflow_add-self-inside-2
overflow_add-self-inside-2 c = omega (arith, room c)

pub of_cell-cell-requires-clause-row : goal.of_cell-cell-requires-clause-row
of_cell-cell-requires-clause-row c = room c

pub common_part-requires : goal.common_part-requires
common_part-requires c = rw (← c.self.view_is, c.of_cell-cell.ensures) (cell_met c.self.inside c.cells_along-cols.result c.args.i c.self.invariant.0 c.self.invariant.1 c.cells_along-cols.ensures.value (below_cells c.self.inside c.args.self.now c.cells_along-cols.result c.args.i c.self.view_is c.self.invariant.0 c.self.invariant.1 c.cells_along-cols.ensures.value c.requires))

pub returns : goal.returns
returns c = rw (c.common_part.ensures.value, ← c.self.view_is, c.of_cell-cell.ensures)
    (at-cells_seen c.self.inside c.cells_along-cols.result c.args.i c.self.invariant.0 c.self.invariant.1 c.cells_along-cols.ensures.value (below_cells c.self.inside c.args.self.now c.cells_along-cols.result c.args.i c.self.view_is c.self.invariant.0 c.self.invariant.1 c.cells_along-cols.ensures.value c.requires))
