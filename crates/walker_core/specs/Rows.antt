-- The pictures of a walk's groups on one tile.
use Rattle.std.specs.Prelude.{◌≡◌, ◌<◌, ℕ, ◌==◌, true, if◌then◌else◌, Option, Some, None, List, [], ◌∷◌, length, take}
use Rattle.pixel_core.specs.Rgba.{Rgba}
use Rattle.geom_core.specs.Areas.{Area, holds, Point}
use Rattle.geom_core.specs.Grid.{Key}
use Rattle.doc_model.specs.Shots.{in_tile}
use Rattle.doc_model.specs.Picture.{with_look}
use Rattle.machine_model.specs.Walks.{value_in, walk_values, walk_value}
use Rattle.compose_core.specs.declared.children.Given.{Given}
use Rattle.compose_core.specs.declared.pile.Pile.{Pile}
use Rattle.compose_core.specs.declared.spot.Spot.{Spot}
use Rattle.compose_core.specs.Piles.{pile_at}
use Rattle.compose_core.specs.Spots.{given_on}
use Rattle.walker_core.specs.declared.gathered.Source.{Source}
use Rattle.walker_core.specs.declared.row.Below.{Below}
use Rattle.walker_core.specs.Readings.{Readings, path_in}
use Rattle.walker_core.specs.Views.{child_of}
use Rattle.walker_core.specs.Knowing.{value_at, HasValue}

-- the groups with the pixels that are given for them at a point, before those that come before, the last one first
abbrev pub given_values : List ℕ → List Given → List (ℕ × Rgba) → Point → List (ℕ × Rgba)
given_values [] given values p = values
given_values (g ∷ gs) [] values p = values
given_values (g ∷ gs) (x ∷ xs) values p = given_values gs xs ((g, given_on x p) ∷ values) p

-- the same with nothing before them
abbrev pub values_of : List ℕ → List Given → Point → List (ℕ × Rgba)
values_of gs given p = given_values gs given [] p

-- the first value of a group, if it has one
abbrev pub found : List (ℕ × Rgba) → ℕ → Option Rgba
found [] g = None
found (v ∷ vs) g = if v.0 == g then Some v.1 else found vs g

-- what is given, if something is, at a point
abbrev pub maybe_on : Option Given → Point → Option Rgba
maybe_on None p = None
maybe_on (Some x) p = Some (given_on x p)

-- for each group of the walk, what is given has the walk's value at the points of the patch in the tile
pub record IsRow (r : Readings) (key : Key) (given : List Given) : Type 0 where
  pub all : length given ≡ length r.groups
  pub values : (p : Point) → holds r.patch.rect p ≡ true → in_tile key p ≡ true → values_of (path_in r) given p ≡ walk_values r.groups [] p

-- the first groups of the walk, but not all, are composed: what is given for them has the walk's values at the points of the patch in the tile
pub record AreComposed (r : Readings) (key : Key) (below : Below) : Type 0 where
  pub paired : length below.given.now ≡ length below.path.now
  pub next : length below.given.now < length (path_in r)
  pub values : (p : Point) → holds r.patch.rect p ≡ true → in_tile key p ≡ true → values_of below.path.now below.given.now p ≡ walk_values (take (length below.given.now) r.groups) [] p

-- what is given has the walk's value of the next group at these points
abbrev pub HasNext : Readings → Key → Below → Given → Type 0
HasNext r key below = HasValue r (length below.given.now) key

-- the same in a part of the tile
abbrev pub HasNextOn : Readings → Spot → Below → Given → Type 0
HasNextOn r spot below given = (p : Point) → holds r.patch.rect p ≡ true → in_tile spot.key p ≡ true → holds spot.part p ≡ true → given_on given p ≡ value_at r.groups (length below.given.now) p

-- the child is laid on the pile at the points of the rectangle in the tile, with what is given for it below or else its own pixels
abbrev pub LaysChild : Area → Key → Below → Source → Pile → Pile → Type 0
LaysChild rect key below source old new = (p : Point) → holds rect p ≡ true → in_tile key p ≡ true
    → pile_at new p ≡ with_look source.look (value_in (values_of below.path.now below.given.now p) (child_of rect source) p) (pile_at old p)

-- what is given has the walk's value of the group at the points of the patch in the tile
abbrev pub ShowsWalk : Readings → ℕ → Key → Given → Type 0
ShowsWalk r g key given = (p : Point) → holds r.patch.rect p ≡ true → in_tile key p ≡ true → given_on given p ≡ walk_value r.groups g p
