-- The laws of frames.
use Rattle.std.specs.Prelude.{◌≡◌, if◌then◌else◌, [], ◌∷◌, None}
use Rattle.std.specs.FinMap as map
use Rattle.pixel_core.specs.Compose.{on_paper}
use Rattle.geom_core.specs.Areas.{Point}
use Rattle.geom_core.specs.Grid.{Key, key_of, same_key}
use Rattle.tile_core.specs.Pixels.{Pixels, pixel_at}
use Rattle.frame_core.specs.Frames.{Scene, IsScene, colours_at, with_put}

-- a frame after a put, point by point
abbrev pub ShownAfterPut : Type 0
ShownAfterPut = (s : Scene) (k : Key) (tile : Pixels) (p : Point) → colours_at (with_put s k tile) p ≡ (if same_key (key_of p) k then on_paper (pixel_at tile p) s.paper else colours_at s p)

-- a point of a frame where nothing was put
abbrev pub PaperWhereNothing : Type 0
PaperWhereNothing = (s : Scene) (p : Point) → IsScene s → map.get s.tiles (key_of p) ≡ None → colours_at s p ≡ s.paper.r ∷ s.paper.g ∷ s.paper.b ∷ []
