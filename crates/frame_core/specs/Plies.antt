-- How the pixels of a tile are composed: plies, one after another.
use Rattle.std.specs.Prelude.{◌≡◌, ℕ, suc, zero, ◌/◌, ◌%◌, nat_lt, if◌then◌else◌, Option, Some, None, List, [], ◌∷◌, fold, slice_index_or}
use Rattle.pixel_core.specs.Rgba.{Rgba, clear}
use Rattle.tile_core.specs.Pixels.{Pixels, pixel_of}
use Rattle.frame_core.specs.OpenRows.{laid_on, ended}
use Rattle.frame_core.specs.declared.ply.Ply.{Ply}
use Rattle.frame_core.specs.declared.ply.Ply.TheVariants.{Tile, Plain, Open, Close}

-- the open groups' pixels at a column and a row, the innermost first, with one more ply
abbrev pub with_ply : ℕ → ℕ → List Rgba → Ply → List Rgba
with_ply col row ps (Tile tile op opacity) = laid_on op opacity (pixel_of tile col row) ps
with_ply col row ps (Plain pixel op opacity) = laid_on op opacity pixel ps
with_ply col row ps Open = clear ∷ ps
with_ply col row ps (Close op opacity) = ended op opacity ps

-- the same with all plies, where at first the root alone is open
abbrev pub open_at : ℕ → ℕ → List Ply → List Rgba
open_at col row plies = fold (with_ply col row) (clear ∷ []) plies

-- the root's pixel at a column and a row when all plies are laid
abbrev pub made_at : List Ply → ℕ → ℕ → Rgba
made_at plies col row = slice_index_or (open_at col row plies) 0 clear

-- the same at n places of the tile from the place i on, in row order
abbrev pub made_from : List Ply → ℕ → ℕ → List Rgba
made_from plies i zero = []
made_from plies i (suc n) = made_at plies (i % 64) (i / 64) ∷ made_from plies (suc i) n

-- the tile's pixels
unfoldable pub made_pixels : List Ply → Pixels
made_pixels plies = made_from plies 0 4096

-- what a frame has on one tile: its pixels, and the plies that make them if it is kept as such
pub record Content : Type 0 where
  pub pixels : Pixels
  pub plies : List Ply

-- a tile's own pixels
abbrev pub of_pixels : Pixels → Content
of_pixels tile = record { pixels = tile; plies = [] }

-- plies, and the pixels that they make
abbrev pub of_plies : List Ply → Content
of_plies plies = record { pixels = made_pixels plies; plies = plies }

-- the pixels, if there is such a thing
abbrev pub pixels_in : Option Content → Option Pixels
pixels_in None = None
pixels_in (Some content) = Some content.pixels

-- how many groups are open after a ply, where n are before: never more than 17, and the root is never closed
abbrev pub open_after : ℕ → Ply → Option ℕ
open_after n Open = if nat_lt n 17 then Some (suc n) else None
open_after (suc (suc n)) (Close op opacity) = Some (suc n)
open_after n (Close op opacity) = None
open_after n ply = Some n

-- the same where groups may have been too many or too few already
abbrev pub then_open : Option ℕ → Ply → Option ℕ
then_open None ply = None
then_open (Some n) ply = open_after n ply

-- each group that is opened is closed, and never more than 17 are open, the root among them
abbrev pub IsStack : List Ply → Type 0
IsStack plies = fold then_open (Some 1) plies ≡ Some 1
