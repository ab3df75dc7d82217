use Rattle.std.proofs.Common.{◌≡◌, ◌+◌, ◌*◌, map, take, length}
use Rattle.doc_model.specs.Layers.{at}
use Rattle.plain_painter.specs.Steps.{point_of, layer_after}
use Rattle.plain_painter.proofs.layer.+pixels.Given as goal

abbrev pub decreases-pixel_after : goal.decreases-pixel_after
decreases-pixel_after l = 4 * length l.steps.now

abbrev pub decreases-pixel_painted : goal.decreases-pixel_painted
decreases-pixel_painted l = 4 * length l.older.now + 3

abbrev pub decreases-pixel_written : goal.decreases-pixel_written
decreases-pixel_written l = 4 * length l.older.now + 2

abbrev pub decreases-pixel_moved : goal.decreases-pixel_moved
decreases-pixel_moved l = 4 * length l.older.now + 1

abbrev pub decreases-pixel_blurred : goal.decreases-pixel_blurred
decreases-pixel_blurred l = 4 * length l.older.now + 1

-- the pixels so far are those round the point
abbrev pub invariant-pixel_blurred-loop-spot : goal.invariant-pixel_blurred-loop-spot
invariant-pixel_blurred-loop-spot l = l.pixels.items ≡ map (at (layer_after l.id l.older)) (map point_of (take l.spot-index l.spot-items))
