-- Rectangles as parts of their tiles.
use Rattle.std.proofs.Common.{◌≡◌, ◌+◌, ◌%◌, ◌≤◌, List}
use Rattle.std.specs.Prelude.{pos, ◌+ℤ◌, nat_abs}
use Rattle.pixel_core.specs.Rgba.{Rgba}
use Rattle.geom_core.specs.Areas.{Area}
use Rattle.geom_core.specs.Rects.{IsWithin}
use Rattle.geom_core.specs.Grid.{Key, tile}
use Rattle.geom_core.specs.Keys.{IsWorldKey}
use Rattle.tile_core.specs.declared.rows.Part.{Part}
use Rattle.tile_core.specs.Pixels.{Pixels, pixel_at, HasPixels}
use Rattle.tile_core.specs.Parts.{IsPartOf, LaysPart, TakesPart}
use Rattle.tile_core.specs.Blocks.{Piece, IsPiece, LaysBlock}
use Rattle.tile_core.proofs.LaidBlocks.{lays_block_as}
use Rattle.tile_core.proofs.LaidKeys.{tile_fits}
use Rattle.tile_core.proofs.Taken.{has_pixels_as}

-- a part of a tile ends within it
pub fits_across : (k : Key) (a : Area) (part : Part) → IsWorldKey k → IsWithin a (tile k) → IsPartOf a part → part.left + part.w ≤ 64
fits_across k a part world is i = rw i.left (tile_fits k.col a.x (nat_abs (a.x +ℤ pos 16384)) a.w part.w world.left i.x is.left is.right i.w i.some_w)

pub fits_down : (k : Key) (a : Area) (part : Part) → IsWorldKey k → IsWithin a (tile k) → IsPartOf a part → part.top + part.h ≤ 64
fits_down k a part world is i = rw i.top (tile_fits k.row a.y (nat_abs (a.y +ℤ pos 16384)) a.h part.h world.top i.y is.top is.bottom i.h i.some_h)

pub lays_block_part : (old old' new : Pixels) (b : Piece) (rect : Area) (part : Part) (src : List Rgba) → IsPiece b → rect ≡ b.rect → IsPartOf rect part → src ≡ b.pixels → old' ≡ old
    → LaysPart old' new part.left part.top part.w part.h src → LaysBlock old new b
lays_block_part old old' new b rect part src is er i es eo laid =
    let laid' : LaysPart old' new (nat_abs (rect.x +ℤ pos 16384) % 64) (nat_abs (rect.y +ℤ pos 16384) % 64) part.w part.h src = rw (← i.left, ← i.top) laid in
    lays_block_as old old' new b rect src (nat_abs (rect.x +ℤ pos 16384)) (nat_abs (rect.y +ℤ pos 16384)) part.w part.h is er i.x i.y i.w i.h i.some_w i.some_h es eo laid'

pub has_pixels_part : (t t' : Pixels) (k : Key) (a : Area) (part : Part) (ps : List Rgba) → IsWorldKey k → IsWithin a (tile k) → IsPartOf a part → t' ≡ t
    → TakesPart t' part.left part.top part.w part.h ps → HasPixels a (pixel_at t) ps
has_pixels_part t t' k a part ps world is i e takes =
    let takes' : TakesPart t' (nat_abs (a.x +ℤ pos 16384) % 64) (nat_abs (a.y +ℤ pos 16384) % 64) part.w part.h ps = rw (← i.left, ← i.top) takes in
    has_pixels_as t t' k a ps (nat_abs (a.x +ℤ pos 16384)) (nat_abs (a.y +ℤ pos 16384)) part.w part.h world is i.x i.y i.w i.h i.some_w i.some_h e takes'
