-- What a node of a document has at a point.
use Rattle.std.specs.Prelude.{ℕ, if◌then◌else◌}
use Rattle.pixel_core.specs.Rgba.{Rgba}
use Rattle.geom_core.specs.Areas.{Point}
use Rattle.doc_model.specs.Layers.{at}
use Rattle.doc_model.specs.Changes.{takes}
use Rattle.doc_model.specs.Picture.{Doc, picture}
use Rattle.machine_model.specs.Groups.{nodes_in}
use Rattle.machine_model.specs.Effects.{layer_in}

-- the pixel of a node at a point, of a group its picture; the group 0 is the root
abbrev pub node_pixel : ℕ → Doc → Point → Rgba
node_pixel id doc p = if takes id doc then picture (nodes_in id doc) p else at (layer_in id doc) p
