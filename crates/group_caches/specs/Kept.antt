-- What a patch of a walk leaves in a cache.
use Rattle.std.specs.Prelude.{◌≡◌, ℕ, true, List, [], ◌∷◌}
use Rattle.std.specs.Ordering.{nat_cmp}
use Rattle.std.specs.FinMap as map
use Rattle.std.specs.FinMap.{FinMap}
use Rattle.pixel_core.specs.Rgba.{Rgba}
use Rattle.geom_core.specs.Areas.{Area, holds, Point}
use Rattle.geom_core.specs.Grid.{Key}
use Rattle.doc_model.specs.Layers.{Layer, painted}
use Rattle.doc_model.specs.Shots.{in_tile}
use Rattle.machine_model.specs.Groups.{cache}

-- the caches with these pixels at the points of the rectangle in the tile, in the cache of the group
abbrev pub with_picture : FinMap nat_cmp Layer → ℕ → Area → Key → (Point → Rgba) → FinMap nat_cmp Layer
with_picture caches g rect key f = map.insert caches g (painted (rect ∷ []) (in_tile key) f (cache caches g))

-- the two have the same pixels at the points of the rectangle in the tile
abbrev pub SameThere : Area → Key → (Point → Rgba) → (Point → Rgba) → Type 0
SameThere rect key f g = (p : Point) → holds rect p ≡ true → in_tile key p ≡ true → f p ≡ g p

-- each of the groups with its cache
abbrev pub kept_entries : FinMap nat_cmp Layer → List ℕ → List (ℕ × Layer)
kept_entries caches [] = []
kept_entries caches (g ∷ gs) = (g, cache caches g) ∷ kept_entries caches gs
