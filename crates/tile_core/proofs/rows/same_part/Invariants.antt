use Rattle.std.specs.Prelude.{slice_index_or}
use Rattle.pixel_core.specs.Rgba.{clear}
use Rattle.tile_core.proofs.SameParts.{IsSoFar}
use Rattle.tile_core.proofs.rows.same_part.Given as goal

-- the rows so far have those pixels
abbrev pub invariant-loop-row : goal.invariant-loop-row
invariant-loop-row l = IsSoFar l.tile (λ k. slice_index_or l.other k clear) l.part.left l.part.top l.part.w l._row l.from
