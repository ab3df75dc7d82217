-- The laws of tiles and shots.
use Rattle.std.specs.Prelude.{◌≡◌, if◌then◌else◌, length}
use Rattle.geom_core.specs.Areas.{Point}
use Rattle.geom_core.specs.Grid.{Key, key_of, same_key}
use Rattle.tile_core.specs.Pixels.{Pixels, pixel_at, whole_tile, SameOn}
use Rattle.tile_core.specs.Shots.{Sight, sight_at, with_seen}

-- two tiles with the same pixel at each point are one
abbrev pub FixedByPoints : Type 0
FixedByPoints = (tile other : Pixels) → length tile ≡ 4096 → length other ≡ 4096 → SameOn whole_tile tile other → tile ≡ other

-- a shot after a put, point by point
abbrev pub SeenAfterPut : Type 0
SeenAfterPut = (s : Sight) (k : Key) (tile : Pixels) (p : Point) → sight_at (with_seen s k tile) p ≡ (if same_key (key_of p) k then pixel_at tile p else sight_at s p)
