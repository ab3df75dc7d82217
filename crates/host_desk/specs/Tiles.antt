-- Tiles of the root's picture as they are copied.
use Rattle.std.specs.Prelude.{◌≡◌, ◌<◌, ◌++◌, ℕ, pos, true, Option, Some, None, List, length, drop, replicate}
use Rattle.std.specs.List.{flat_map}
use Rattle.pixel_core.specs.Rgba.{clear}
use Rattle.pixel_core.specs.Words.{bytes_of}
use Rattle.geom_core.specs.Areas.{Area, Point}
use Rattle.geom_core.specs.Grid.{Key, key, tile}
use Rattle.geom_core.specs.Overlaps.{clipped}
use Rattle.tile_core.specs.Pixels.{Pixels, pixel_at}
use Rattle.doc_model.specs.Layers.{at}
use Rattle.doc_model.specs.Picture.{canvas_area}
use Rattle.doc_model.specs.Shots.{in_tile}
use Rattle.machine_model.specs.Covers.{covered}
use Rattle.machine_model.specs.Groups.{cache}
use Rattle.machine_model.specs.State.{State}
use Rattle.slot_work.specs.Round.{IsRound}
use Rattle.desk_events.specs.Shown.{ShowsWhereClean}
use Rattle.host_lines.specs.declared.answer.Answer.{Answer}
use Rattle.host_lines.specs.declared.answer.Answer.TheVariants as answer

abbrev pub tile_key : ℕ → ℕ → Key
tile_key col row = key (pos col) (pos row)

-- the pixels of a tile that may be there, clear where it isn't
abbrev pub pixels_of : Option Pixels → Pixels
pixels_of None = replicate 4096 clear
pixels_of (Some pixels) = pixels

-- a tile of the root's picture was copied to the first places, and what of it on the canvas is to be composed anew was told: all other points have the picture's pixels
pub record TileCopied (s : State) (k : Key) (old new : List ℕ) (dirty : Option Area) : Type 0 where
  pub pixels : Pixels
  pub shows : (p : Point) → in_tile k p ≡ true → pixel_at pixels p ≡ at (cache s.caches 0) p
  pub bytes : new ≡ flat_map bytes_of pixels ++ drop 16384 old
  pub part : Area
  pub on_canvas : clipped (canvas_area s.canvas) (tile k) ≡ Some part
  pub round : IsRound part (covered s 0) dirty
  pub clean : ShowsWhereClean s

-- it was copied; or the canvas has no point in it, or there is too little room
abbrev pub TileTold : State → Key → List ℕ → Answer → Option Area → List ℕ → Type 0
TileTold s k old answer.Done dirty new = TileCopied s k old new dirty
TileTold s k old answer.Outside dirty new = (clipped (canvas_area s.canvas) (tile k) ≡ None) × (new ≡ old)
TileTold s k old answer.NoRoom dirty new = (length old < 16384) × (new ≡ old)
TileTold s k old a dirty new = ⊥
