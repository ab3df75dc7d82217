-- Some of the tiles of a rectangle.
use Rattle.std.specs.Prelude.{◌-◌, ℕ, Option, Some, None, List, [], ◌∷◌, drop, take, refl}
use Rattle.std.specs.Coded.{Coded, code_by, coded×, coded_list}
use Rattle.geom_core.specs.Areas.{Area}
use Rattle.geom_core.specs.Exchanged.{widened}
use Rattle.geom_core.specs.Grid.{Key, keys_of, tile}
use Rattle.geom_core.specs.Keys.{key_code}
use Rattle.geom_core.specs.Overlaps.{clipped}
use Rattle.geom_core.specs.Rects.{area_code}

-- the rectangle, and some of its tiles
pub record Tiles : Type 0 where
  pub rect : Area
  pub keys : List Key

-- those from one place on, up to another
abbrev pub tiles_between : Area → ℕ → ℕ → Tiles
tiles_between rect from to = record { rect = rect; keys = take (to - from) (drop from (keys_of rect)) }

-- the code by which contracts tell such tiles apart
abbrev pub tiles_code : Coded Tiles
tiles_code = code_by (Area × List Key) (coded× area_code (coded_list key_code)) (λ t. (t.rect, t.keys)) (λ t. record { rect = t.0; keys = t.1 }) (λ _. refl)

-- the least rectangle round one that may be there and tiles
abbrev pub rounded : Option Area → List Key → Option Area
rounded round [] = round
rounded round (k ∷ ks) = rounded (Some (widened round (tile k))) ks

-- what a rectangle has of another one that may be there
abbrev pub within : Area → Option Area → Option Area
within rect None = None
within rect (Some round) = clipped rect round

-- what the rectangle has of the least one round its tiles
abbrev pub area_of : Tiles → Option Area
area_of t = within t.rect (rounded None t.keys)
