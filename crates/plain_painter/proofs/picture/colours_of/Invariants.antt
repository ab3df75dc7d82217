use Rattle.std.proofs.Common.{◌≡◌, map, take}
use Rattle.pixel_core.specs.Compose.{on_paper}
use Rattle.doc_model.specs.Picture.{picture}
use Rattle.plain_painter.specs.Steps.{point_of}
use Rattle.plain_painter.proofs.picture.colours_of.Given as goal

-- the points so far have their colours
abbrev pub invariant-loop-spot : goal.invariant-loop-spot
invariant-loop-spot l = l.colours.items ≡ map (λ p. on_paper (picture l.doc p) l.paper) (map point_of (take l.spot-index l.spots))
