-- A block as contracts see it: pixels on a rectangle inside one tile.
use Rattle.std.specs.Prelude.{◌≡◌, ◌*◌, List, slice_index_or, length, replicate, cond, true}
use Rattle.geom_core.specs.Areas.{Area, holds, Point}
use Rattle.geom_core.specs.Same.{same_point}
use Rattle.geom_core.specs.Rects.{IsWithin, place_in}
use Rattle.tile_core.specs.Pixels.{Pixels, pixel_at}
use Rattle.geom_core.specs.Grid.{Key, tile}
use Rattle.geom_core.specs.Keys.{IsWorldKey}
use Rattle.pixel_core.specs.Rgba.{Rgba, clear}

-- a block's key, its rectangle, and the rectangle's pixels in row order
pub record Piece : Type 0 where
  pub key : Key
  pub rect : Area
  pub pixels : List Rgba

-- the block of these parts
abbrev pub piece : Key → Area → List Rgba → Piece
piece k a ps = record { key = k; rect = a; pixels = ps }

-- a key of the world, a rectangle inside its tile, and a pixel for each of the rectangle's points
pub record IsPiece (b : Piece) : Type 0 where
  pub key : IsWorldKey b.key
  pub inside : IsWithin b.rect (tile b.key)
  pub all : length b.pixels ≡ b.rect.h * b.rect.w

-- the pixel at a point of the rectangle
abbrev pub piece_at : Piece → Point → Rgba
piece_at b p = slice_index_or b.pixels (place_in b.rect p) clear

-- a block with that pixel at each of its points
abbrev pub plain_piece : Key → Area → Rgba → Piece
plain_piece k a c = piece k a (replicate (a.h * a.w) c)

-- the new tile has the block's pixels on its rectangle, and the old tile's elsewhere
abbrev pub LaysBlock : Pixels → Pixels → Piece → Type 0
LaysBlock old new b = (p : Point) → holds (tile b.key) p ≡ true → pixel_at new p ≡ cond (holds b.rect p) (piece_at b p) (pixel_at old p)

-- only the pixel at that point is another
pub record SetsAt (old new : Piece) (q : Point) (c : Rgba) : Type 0 where
  pub key : new.key ≡ old.key
  pub rect : new.rect ≡ old.rect
  pub at : (p : Point) → holds old.rect p ≡ true → piece_at new p ≡ cond (same_point p q) c (piece_at old p)
