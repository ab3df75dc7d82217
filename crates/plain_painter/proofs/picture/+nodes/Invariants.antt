use Rattle.std.proofs.Common.{◌≡◌, ◌+◌, ◌*◌}
use Rattle.pixel_core.specs.Rgba.{clear}
use Rattle.doc_model.specs.Forest.{upper}
use Rattle.doc_model.specs.Picture.{laid}
use Rattle.machine_model.specs.Groups.{nodes_in}
use Rattle.plain_painter.specs.Steps.{point_of}
use Rattle.plain_painter.proofs.picture.+nodes.Given as goal

abbrev pub decreases-with_child : goal.decreases-with_child
decreases-with_child l = 3 * l.levels

abbrev pub decreases-group_at : goal.decreases-group_at
decreases-group_at l = 3 * l.levels + 1

abbrev pub decreases-node_at : goal.decreases-node_at
decreases-node_at l = 3 * l.levels + 2

-- the children so far are laid
abbrev pub invariant-group_at-loop-place : goal.invariant-group_at-loop-place
invariant-group_at-loop-place l = laid (nodes_in l.group l.doc) (point_of l.spot) clear ≡ laid (upper l.place (nodes_in l.group l.doc)) (point_of l.spot) l.pixel
