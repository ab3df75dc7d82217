-- What a job was started with, and what it leaves in one tile.
use Rattle.std.specs.Prelude.{Bool, true, List}
use Rattle.geom_core.specs.Areas.{Area, Point}
use Rattle.geom_core.specs.Grid.{Key, key_of, same_key}
use Rattle.doc_model.specs.declared.job.Job.{Job}
use Rattle.doc_model.specs.Layers.{Layer, at, painted, plain}
use Rattle.doc_model.specs.Jobs.{apply, writes}

-- the layer's pixels on these rectangles, and its default pixel elsewhere
unfoldable pub shot_of : List Area → Layer → Layer
shot_of rects layer = painted rects (λ _. true) (at layer) (plain layer.default_pixel)

-- whether the point lies in the tile
abbrev pub in_tile : Key → Point → Bool
in_tile key p = same_key (key_of p) key

-- the layer with a job's value on its shot, at the points of the job's writes in one tile
unfoldable pub published : Job → Layer → Key → Layer → Layer
published job shot key layer = painted (writes job) (in_tile key) (at (apply job shot)) layer
