-- A tile of a job made whole, as contracts see it.
use Rattle.std.specs.Prelude.{◌≡◌, cond, true, false, List, refl}
use Rattle.std.specs.Coded.{Coded, code_by, coded×, coded_list}
use Rattle.pixel_core.specs.Rgba.{Rgba}
use Rattle.pixel_core.specs.Words.{pixel_code}
use Rattle.geom_core.specs.Areas.{Area, holds, Point}
use Rattle.geom_core.specs.Rects.{any_holds, area_code}
use Rattle.geom_core.specs.Grid.{Key}
use Rattle.geom_core.specs.Keys.{key_code, IsWorldKey}
use Rattle.tile_core.specs.Pixels.{Pixels, pixel_at}
use Rattle.tile_core.specs.Shots.{Sight, sight_at, sight_code}
use Rattle.doc_model.specs.contracts.job.Job as job
use Rattle.doc_model.specs.declared.job.Job.{Job}
use Rattle.doc_model.specs.Layers.{Layer, at}
use Rattle.doc_model.specs.Jobs.{checks, reads, writes, apply}
use Rattle.doc_model.specs.Shots.{in_tile}
use Rattle.job_core.specs.Paints.{Paint, layer_of}

-- a job, the key of a tile, the rectangle on which it hangs what the job leaves there, the shot that it was made from, and the new tile
pub record Entire : Type 0 where
  pub job : Job
  pub key : Key
  pub needs : Area
  pub base : Sight
  pub tile : Pixels

-- these parts together
abbrev pub entire : Job → Key → Area → Sight → Pixels → Entire
entire j k a s t = record { job = j; key = k; needs = a; base = s; tile = t }

-- the layer has the base's default pixel, and its pixels on the rectangle
pub record Shows (needs : Area) (base : Sight) (layer : Layer) : Type 0 where
  pub default_pixel : layer.default_pixel ≡ base.default_pixel
  pub pixels : (p : Point) → holds needs p ≡ true → at layer p ≡ sight_at base p

-- the tile has the job's value, of each layer that shows the base, where the job writes, and the base's pixels elsewhere
pub record IsEntire (x : Entire) : Type 0 where
  pub world : IsWorldKey x.key
  pub checked : checks x.job ≡ true
  pub read : (p : Point) → holds x.needs p ≡ true → any_holds (reads x.job) p ≡ true
  pub value : (layer : Layer) → Shows x.needs x.base layer → (p : Point) → in_tile x.key p ≡ true → any_holds (writes x.job) p ≡ true → pixel_at x.tile p ≡ at (apply x.job layer) p
  pub rest : (p : Point) → in_tile x.key p ≡ true → any_holds (writes x.job) p ≡ false → pixel_at x.tile p ≡ sight_at x.base p

-- it is of this painting: of its job and key, and of a base that its shot shows
pub record IsOf (w : Paint) (x : Entire) : Type 0 where
  pub job : x.job ≡ w.job
  pub key : x.key ≡ w.key
  pub shows : Shows x.needs x.base (layer_of w.shot)

-- in the tile, its base has the pixels of that shot
abbrev pub SharesOwn : Sight → Entire → Type 0
SharesOwn shot x = (p : Point) → in_tile x.key p ≡ true → sight_at x.base p ≡ sight_at shot p

-- a tile has what the job makes of the shot where the job writes, and the shot's pixels elsewhere
abbrev pub IsNew : Job → Sight → Key → Pixels → Type 0
IsNew job shot key t = (p : Point) → in_tile key p ≡ true → pixel_at t p ≡ cond (any_holds (writes job) p) (at (apply job (layer_of shot)) p) (sight_at shot p)

-- in the painting's tile, the new pixels are what the job makes of the shot where it writes, and the old ones elsewhere
abbrev pub LaysPaint : Paint → Pixels → Pixels → Type 0
LaysPaint w old new = (p : Point) → in_tile w.key p ≡ true → pixel_at new p ≡ cond (any_holds (writes w.job) p) (at (apply w.job (layer_of w.shot)) p) (pixel_at old p)

-- the code by which contracts tell such tiles apart
abbrev pub entire_code : Coded Entire
entire_code = code_by ((Job × Key) × (Area × (Sight × List Rgba))) (coded× (coded× (job.the_row).coded key_code) (coded× area_code (coded× sight_code (coded_list pixel_code)))) (λ x. ((x.job, x.key), (x.needs, (x.base, x.tile)))) (λ t. entire t.0.0 t.0.1 t.1.0 t.1.1.0 t.1.1.1) (λ _. refl)
