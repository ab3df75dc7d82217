-- The tile that a device gets where something was painted.
use Rattle.std.specs.Prelude.{◌≡◌, true, cond, pos, ◌-ℤ◌, Option, None, Some, List}
use Rattle.std.specs.Option.{option_or}
use Rattle.std.specs.List.{list_any}
use Rattle.geom_core.specs.Areas.{Area, Point}
use Rattle.geom_core.specs.Rects.{any_holds}
use Rattle.geom_core.specs.Grid.{Key, key, key_of, same_key, all_keys_of}
use Rattle.tile_core.specs.Pixels.{Pixels, pixel_at}
use Rattle.tile_core.specs.Shots.{Sight, sight_at}
use Rattle.memento_core.specs.Planes.{tile_under}
use Rattle.doc_model.specs.declared.job.Job.{Job}
use Rattle.doc_model.specs.Layers.{Layer, at}
use Rattle.doc_model.specs.Jobs.{writes, apply}
use Rattle.doc_model.specs.Shots.{in_tile}
use Rattle.job_core.specs.Paints as paints
use Rattle.job_core.specs.Paints.{Paint, Stuff, Makes}
use Rattle.job_core.specs.Points.{Spot, all_painted_in}
use Rattle.whole_tiles.specs.Wholes.{Entire}
use Rattle.paint_device.specs.Seen.{layer_of}
use Rattle.paint_device.specs.Sheets.{Sheet, sheet_at}

-- the tile has what the job makes of a layer where the job writes, and the sheet's pixels elsewhere
abbrev pub IsLaid : Job → Layer → Key → Sheet → Pixels → Type 0
IsLaid job shot k s t = (p : Point) → in_tile k p ≡ true → pixel_at t p ≡ cond (any_holds (writes job) p) (at (apply job shot) p) (sheet_at s p)

-- the same of the shot of whichever painting left these blocks
abbrev pub IsLaidFrom : Stuff → Sheet → Pixels → Type 0
IsLaidFrom made s t = (w : Paint) → Makes w made → IsLaid w.job (paints.layer_of w.shot) w.key s t

-- the tile has what point operations that are painted there make of the sheet's own layer
abbrev pub IsPaintedOn : Spot → Sheet → Pixels → Type 0
IsPaintedOn w s t = (p : Point) → in_tile w.key p ≡ true → pixel_at t p ≡ at (all_painted_in w.jobs w.key (layer_of s)) p

-- the sheet has the pixels that the new tile was made from
abbrev pub HasBase : Entire → Sheet → Type 0
HasBase x s = (p : Point) → in_tile x.key p ≡ true → sheet_at s p ≡ sight_at x.base p

-- the same of a device that may be there
abbrev pub HasBaseIn : Entire → Option Sheet → Type 0
HasBaseIn x None = ⊥
HasBaseIn x (Some s) = HasBase x s

-- the new tile was made from the layer's pixels
abbrev pub IsMadeFrom : Entire → Layer → Type 0
IsMadeFrom x l = (p : Point) → in_tile x.key p ≡ true → sight_at x.base p ≡ at l p

-- the tile has the new tile's pixels where the job writes, and the sheet's elsewhere
abbrev pub IsWholeOn : Entire → Sheet → Pixels → Type 0
IsWholeOn x s t = (p : Point) → in_tile x.key p ≡ true → pixel_at t p ≡ cond (any_holds (writes x.job) p) (pixel_at x.tile p) (sheet_at s p)

-- the shot has the layer's pixels in the whole of each tile that the rectangles meet
abbrev pub ShowsTiles : List Area → Layer → Sight → Type 0
ShowsTiles rects l shot = (p : Point) → list_any (same_key (key_of p)) (all_keys_of rects) ≡ true → sight_at shot p ≡ at l p

-- the tile to the left of the key, or else the one above
abbrev pub beside : Sheet → Key → Option Pixels
beside s k = option_or (tile_under s.tiles (key (k.col -ℤ pos 1) k.row)) (tile_under s.tiles (key k.col (k.row -ℤ pos 1)))
