use Rattle.std.proofs.Common.{◌≡◌, take, true, false}
use Rattle.geom_core.specs.Areas.{Point}
use Rattle.geom_core.specs.Grid.{key_of}
use Rattle.geom_core.specs.Rects.{any_holds}
use Rattle.frame_core.specs.Marks.{on_canvas}
use Rattle.frame_core.specs.Damage.{is_damaged}
use Rattle.desk_core.proofs.spread.damage_all.Given as goal

-- the points of the rectangles so far are damaged, and those that were
abbrev pub invariant-loop-rect : goal.invariant-loop-rect
invariant-loop-rect l = (p : Point) → on_canvas (key_of p) ≡ true → is_damaged l.damage p ≡ false → (is_damaged l.initial.damage p ≡ false) × (any_holds (take l.rect-index l.rects) p ≡ false)
