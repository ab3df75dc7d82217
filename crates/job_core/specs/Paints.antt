-- What painting one tile of a job leaves.
use Rattle.std.specs.Prelude.{◌≡◌, Bool, true, false, ◌&&◌, nat_eq, List, [], ◌∷◌, map, All, option_to_list, refl}
use Rattle.std.specs.Coded.{Coded, code_by, coded×, coded_list}
use Rattle.pixel_core.specs.Rgba.{Rgba}
use Rattle.pixel_core.specs.Words.{pixel_code}
use Rattle.geom_core.specs.Areas.{Area, holds, Point}
use Rattle.geom_core.specs.Rects.{any_holds, area_code}
use Rattle.geom_core.specs.Grid.{Key}
use Rattle.geom_core.specs.Keys.{key_code, IsWorldKey}
use Rattle.tile_core.specs.Blocks.{Piece, piece, piece_at}
use Rattle.tile_core.specs.Pixels.{Pixels, pixel_at}
use Rattle.tile_core.specs.Shots.{Sight, sight_at, sight_code}
use Rattle.doc_model.specs.contracts.job.Job as job
use Rattle.doc_model.specs.declared.job.Job.{Job}
use Rattle.job_core.specs.declared.blocks.Blocks.{Blocks}
use Rattle.doc_model.specs.Jobs.{apply, writes}
use Rattle.doc_model.specs.Shots.{in_tile}
use Rattle.doc_model.specs.Layers.{Layer, at, painted, plain}

-- the layer that a shot shows: its pixels on its rectangles, and its default pixel elsewhere
unfoldable pub layer_of : Sight → Layer
layer_of s = painted s.rects (λ _. true) (sight_at s) (plain s.default_pixel)

-- a job, the shot that it was painted on, a tile's key, and blocks
pub record Paint : Type 0 where
  pub job : Job
  pub shot : Sight
  pub key : Key
  pub blocks : List Piece

-- a tile's key, and blocks
pub record Stuff : Type 0 where
  pub key : Key
  pub blocks : List Piece

-- these parts together
abbrev pub stuff : Key → List Piece → Stuff
stuff k bs = record { key = k; blocks = bs }

-- the key and the blocks, without the job and its shot
abbrev pub made_of : Paint → Stuff
made_of w = stuff w.key w.blocks

-- these parts together
abbrev pub paint : Job → Sight → Key → List Piece → Paint
paint j s k bs = record { job = j; shot = s; key = k; blocks = bs }

-- the block lies in the key's tile, and has what the job makes of the shot
pub record HasValue (job : Job) (shot : Sight) (key : Key) (b : Piece) : Type 0 where
  pub key_is : b.key ≡ key
  pub value_is : (p : Point) → holds b.rect p ≡ true → piece_at b p ≡ at (apply job (layer_of shot)) p

-- the blocks hold just the points of the job's writes in the tile, and have the job's value there
pub record IsPainted (w : Paint) : Type 0 where
  pub key_is : IsWorldKey w.key
  pub values : All (HasValue w.job w.shot w.key) w.blocks
  pub covers : (p : Point) → any_holds (map (λ (b : Piece). b.rect) w.blocks) p ≡ (any_holds (writes w.job) p && in_tile w.key p)

-- the job, painted on the shot in the key's tile, leaves these blocks
abbrev pub Leaves : Job → Sight → Key → List Piece → Type 0
Leaves job shot key blocks = IsPainted (paint job shot key blocks)

-- one block, or two, as a list
abbrev pub pieces_of : Blocks → List Piece
pieces_of bs = bs.first ∷ option_to_list bs.second

-- whether the blocks are one that has 64 columns and rows, and so all points of its tile
abbrev pub is_whole : List Piece → Bool
is_whole [] = false
is_whole (b ∷ []) = nat_eq b.rect.w 64 && nat_eq b.rect.h 64
is_whole (b ∷ c ∷ rest) = false

-- the job writes each point of the tile, and there the pixels are what it makes of the shot
pub record FillsTile (w : Paint) (pixels : Pixels) : Type 0 where
  pub written : (p : Point) → in_tile w.key p ≡ true → any_holds (writes w.job) p ≡ true
  pub value : (p : Point) → in_tile w.key p ≡ true → pixel_at pixels p ≡ at (apply w.job (layer_of w.shot)) p

-- painting left this key with these blocks
pub record Makes (w : Paint) (s : Stuff) : Type 0 where
  pub painted : IsPainted w
  pub is : made_of w ≡ s

-- some painting left them
pub record IsMade (s : Stuff) : Type 0 where
  pub work : Paint
  pub makes : Makes work s

abbrev piece_code : Coded Piece
piece_code = code_by (Key × (Area × List Rgba)) (coded× key_code (coded× area_code (coded_list pixel_code))) (λ b. (b.key, (b.rect, b.pixels))) (λ t. piece t.0 t.1.0 t.1.1) (λ _. refl)

-- the code by which contracts tell what was painted apart
abbrev pub paint_code : Coded Paint
paint_code = code_by (Job × (Sight × (Key × List Piece))) (coded× (job.the_row).coded (coded× sight_code (coded× key_code (coded_list piece_code)))) (λ w. (w.job, (w.shot, (w.key, w.blocks)))) (λ t. paint t.0 t.1.0 t.1.1.0 t.1.1.1) (λ _. refl)

-- the code by which contracts tell keys with blocks apart
abbrev pub stuff_code : Coded Stuff
stuff_code = code_by (Key × List Piece) (coded× key_code (coded_list piece_code)) (λ s. (s.key, s.blocks)) (λ t. stuff t.0 t.1) (λ _. refl)
