-- A device as contracts see it: a default pixel, and what stands under each of its keys.
use Rattle.std.specs.Prelude.{◌≡◌, Option, Some, None, true, false, is_some, cond, if◌then◌else◌, replicate, refl}
use Rattle.std.specs.FinMap as map
use Rattle.std.specs.Coded.{Coded, code_by, coded×, coded_list, coded_option}
use Rattle.pixel_core.specs.Rgba.{Rgba}
use Rattle.pixel_core.specs.Words.{pixel_code}
use Rattle.geom_core.specs.Areas.{holds, Point}
use Rattle.geom_core.specs.Grid.{Key, key_of, same_key}
use Rattle.geom_core.specs.Keys.{key_code, IsWorldKey}
use Rattle.memento_core.specs.Planes.{Keyed, tile_under}
use Rattle.tile_core.specs.Pixels.{Pixels, pixel_or}
use Rattle.tile_core.specs.Blocks.{Piece, piece_at}

-- the pixel that stands wherever no tile does, and the keys with their tiles
pub record Sheet : Type 0 where
  pub default_pixel : Rgba
  pub tiles : Keyed Pixels

-- the sheet of these parts
abbrev pub sheet : Rgba → Keyed Pixels → Sheet
sheet c m = record { default_pixel = c; tiles = m }

-- all keys are tiles of the world
abbrev pub IsSheet : Sheet → Type 0
IsSheet s = (k : Key) → map.contains_key s.tiles k ≡ true → IsWorldKey k

-- the pixel at a point: its tile's, and the default pixel where no tile stands
abbrev pub sheet_at : Sheet → Point → Rgba
sheet_at s p = pixel_or (tile_under s.tiles (key_of p)) s.default_pixel p

-- the same with that tile or None under the key
abbrev pub with_under : Sheet → Key → Option Pixels → Sheet
with_under s k t = sheet s.default_pixel (map.insert s.tiles k t)

-- the same with the key there: with None under it where it wasn't there before
abbrev pub readied : Sheet → Key → Sheet
readied s k = if map.contains_key s.tiles k then s else with_under s k None

-- the tile that is there, or one that has the pixel everywhere
abbrev pub tile_or : Option Pixels → Rgba → Pixels
tile_or None c = replicate 4096 c
tile_or (Some t) c = t

-- the block's points have its pixels and all others stay; a tile stands under its key, and under all others what stood there
pub record WritesBlock (old new : Sheet) (b : Piece) : Type 0 where
  pub default_pixel : new.default_pixel ≡ old.default_pixel
  pub at : (p : Point) → sheet_at new p ≡ cond (holds b.rect p) (piece_at b p) (sheet_at old p)
  pub stands : is_some (tile_under new.tiles b.key) ≡ true
  pub others : (k : Key) → same_key k b.key ≡ false → map.get new.tiles k ≡ map.get old.tiles k

-- the code by which contracts tell devices apart
abbrev pub sheet_code : Coded Sheet
sheet_code = code_by (Rgba × Keyed Pixels) (coded× pixel_code (map.code key_code (coded_option (coded_list pixel_code)))) (λ s. (s.default_pixel, s.tiles)) (λ t. sheet t.0 t.1) (λ _. refl)
