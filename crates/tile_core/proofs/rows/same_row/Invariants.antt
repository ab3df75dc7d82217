use Rattle.std.specs.Prelude.{◌↔◌, IsTrue, slice_index_or}
use Rattle.pixel_core.specs.Rgba.{clear}
use Rattle.tile_core.specs.Same.{RowIs}
use Rattle.tile_core.proofs.rows.same_row.Given as goal

-- whether the pixels so far are those
abbrev pub invariant-loop-i : goal.invariant-loop-i
invariant-loop-i l = IsTrue l.all ↔ RowIs l.tile (λ k. slice_index_or l.other k clear) l.from l.i
