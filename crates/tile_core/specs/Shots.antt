-- A shot as contracts see it: rectangles, a default pixel, and tiles under some keys.
use Rattle.std.specs.Prelude.{◌≡◌, true, List, slice_index_or, refl, cond}
use Rattle.std.specs.List.{list_any}
use Rattle.std.specs.FinMap as map
use Rattle.std.specs.FinMap.{FinMap}
use Rattle.std.specs.Coded.{Coded, code_by, coded×, coded_list}
use Rattle.pixel_core.specs.Rgba.{Rgba, clear}
use Rattle.pixel_core.specs.Words.{pixel_code}
use Rattle.geom_core.specs.Areas.{Area, holds, Point}
use Rattle.geom_core.specs.Rects.{any_holds, place_in, area_code}
use Rattle.geom_core.specs.Grid.{Key, key_cmp, key_of, same_key}
use Rattle.geom_core.specs.Keys.{key_code}
use Rattle.tile_core.specs.Pixels.{Pixels, pixel_at, pixel_or}

-- a shot's rectangles, its tiles under keys, and the pixel that it has wherever no tile stands
pub record Sight : Type 0 where
  pub default_pixel : Rgba
  pub rects : List Area
  pub tiles : FinMap key_cmp Pixels

-- the shot of these parts
abbrev pub sight : Rgba → List Area → FinMap key_cmp Pixels → Sight
sight c rects m = record { default_pixel = c; rects = rects; tiles = m }

-- the pixel at a point
abbrev pub sight_at : Sight → Point → Rgba
sight_at s p = pixel_or (map.get s.tiles (key_of p)) s.default_pixel p

-- the shot has the pixels of f at the points of the rectangle
abbrev pub ShowsOn : Area → Sight → (Point → Rgba) → Type 0
ShowsOn a s f = (p : Point) → holds a p ≡ true → f p ≡ sight_at s p

-- both shots have the same pixels at the points of the rectangle in the key's tile
abbrev pub SameInTile : Key → Area → Sight → Sight → Type 0
SameInTile k a s other = (p : Point) → holds a p ≡ true → same_key (key_of p) k ≡ true → sight_at s p ≡ sight_at other p

-- both shots have the same default pixel, and the same pixels at the points of the rectangles
pub record SameShots (rects : List Area) (s other : Sight) : Type 0 where
  pub default_pixel : s.default_pixel ≡ other.default_pixel
  pub pixels : (p : Point) → any_holds rects p ≡ true → sight_at s p ≡ sight_at other p

-- the same with that tile under the key
abbrev pub with_seen : Sight → Key → Pixels → Sight
with_seen s k t = record s { tiles = map.insert s.tiles k t }

-- the new pixels of a rectangle have the tile's pixels at the points that lie in the key's tile, and the old ones elsewhere
abbrev pub LaysKey : List Rgba → List Rgba → Area → Key → Pixels → Type 0
LaysKey old new a k t = (p : Point) → holds a p ≡ true → slice_index_or new (place_in a p) clear ≡ cond (same_key (key_of p) k) (pixel_at t p) (slice_index_or old (place_in a p) clear)

-- the pixels of a rectangle are the shot's at the points whose keys are among these, and the default pixel elsewhere
abbrev pub ReadsKeys : Sight → Area → List Rgba → List Key → Type 0
ReadsKeys s a pixels ks = (p : Point) → holds a p ≡ true → slice_index_or pixels (place_in a p) clear ≡ cond (list_any (same_key (key_of p)) ks) (sight_at s p) s.default_pixel

-- the code by which contracts tell shots apart
abbrev pub sight_code : Coded Sight
sight_code = code_by (Rgba × (List Area × FinMap key_cmp Pixels)) (coded× pixel_code (coded× (coded_list area_code) (map.code key_code (coded_list pixel_code)))) (λ s. (s.default_pixel, (s.rects, s.tiles))) (λ t. sight t.0 t.1.0 t.1.1) (λ _. refl)
