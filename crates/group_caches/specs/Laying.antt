-- What is laid on a device.
use Rattle.std.specs.Prelude.{◌≡◌, ◌&&◌, cond, Option, None, false}
use Rattle.pixel_core.specs.Rgba.{clear}
use Rattle.geom_core.specs.Areas.{Area, holds, Point}
use Rattle.geom_core.specs.Grid.{Key, same_key}
use Rattle.tile_core.specs.Pixels.{Pixels, pixel_or}
use Rattle.tile_core.specs.Blocks.{Piece, piece_at}
use Rattle.doc_model.specs.Shots.{in_tile}
use Rattle.memento_core.specs.Planes.{tile_under}
use Rattle.compose_core.specs.declared.children.Given.{Given}
use Rattle.compose_core.specs.declared.children.Given.TheVariants.{Plain}
use Rattle.compose_core.specs.Spots.{given_on}
use Rattle.paint_device.specs.Sheets.{Sheet, sheet_at}

-- the block's points have its pixels, and all others stay
pub record LaysPoints (old new : Sheet) (b : Piece) : Type 0 where
  pub default_pixel : new.default_pixel ≡ old.default_pixel
  pub at : (p : Point) → sheet_at new p ≡ cond (holds b.rect p) (piece_at b p) (sheet_at old p)

-- the rectangle's points in the tile have what is given, and all others stay
pub record LaysGiven (rect : Area) (key : Key) (given : Given) (old new : Sheet) : Type 0 where
  pub default_pixel : new.default_pixel ≡ old.default_pixel
  pub at : (p : Point) → sheet_at new p ≡ cond (holds rect p && in_tile key p) (given_on given p) (sheet_at old p)

-- the tile, or none where all is clear, shows what is given; for a clear picture there is none
pub record StandsFor (given : Given) (tile : Option Pixels) : Type 0 where
  pub none : given ≡ Plain clear → tile ≡ None
  pub shows : (p : Point) → pixel_or tile clear p ≡ given_on given p

-- the default pixel stays, and what stands under all other keys
pub record KeepsOthers (key : Key) (old new : Sheet) : Type 0 where
  pub default_pixel : new.default_pixel ≡ old.default_pixel
  pub others : (k : Key) → same_key k key ≡ false → tile_under new.tiles k ≡ tile_under old.tiles k

-- no tile stands under the key, and all else stays
pub record HasNone (key : Key) (old new : Sheet) : Type 0 where
  pub here : tile_under new.tiles key ≡ None
  pub rest : KeepsOthers key old new

-- under the key stands the tile that shows what is given, or none, and all else stays
pub record LaysWhole (key : Key) (given : Given) (old new : Sheet) : Type 0 where
  pub here : StandsFor given (tile_under new.tiles key)
  pub rest : KeepsOthers key old new
