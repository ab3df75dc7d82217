-- What is known of a walk's values before it is composed.
use Rattle.std.specs.Prelude.{◌≡◌, ℕ, true, false, Bool, if◌then◌else◌, Option, Some, None, IfSome, List, [], ◌∷◌, take, slice_index_or}
use Rattle.pixel_core.specs.Rgba.{Rgba, clear}
use Rattle.geom_core.specs.Areas.{Area, holds, Point}
use Rattle.geom_core.specs.Grid.{Key, key_of, same_key}
use Rattle.frame_core.specs.Damage.{part_has}
use Rattle.tile_core.specs.Shots.{Sight, sight_at}
use Rattle.doc_model.specs.Shots.{in_tile}
use Rattle.machine_model.specs.State.{Child}
use Rattle.machine_model.specs.Walks.{walk_folded, walk_values}
use Rattle.compose_core.specs.Spots.{IsSpot, given_on}
use Rattle.compose_core.specs.declared.children.Given.{Given}
use Rattle.walker_core.specs.declared.known.Damaged.{Damaged}
use Rattle.walker_core.specs.declared.known.Known.{Known}
use Rattle.walker_core.specs.declared.known.Kept.{Kept}
use Rattle.walker_core.specs.declared.known.Kept.TheVariants.{Nothing, Whole, Outside}
use Rattle.walker_core.specs.Readings.{Readings}
use Rattle.walker_core.specs.Folds.{StandsOn}

-- the damaged part of a tile, if it has one
abbrev pub stale_in : List Damaged → Key → Option Area
stale_in [] k = None
stale_in (d ∷ ds) k = if same_key k d.key then Some d.part else stale_in ds k

-- whether the point lies in the damaged part of its tile
abbrev pub is_stale : List Damaged → Point → Bool
is_stale ds p = part_has (stale_in ds (key_of p)) p

-- each group's shot has the walk's value of the group at a point
abbrev pub ShowValues : List (ℕ × List Child) → List Sight → List (ℕ × Rgba) → Point → Type 0
ShowValues [] shots values p = Unit {0}
ShowValues (e ∷ es) [] values p = ⊥
ShowValues (e ∷ es) (s ∷ ss) values p = (sight_at s p ≡ walk_folded values e.1 p clear) × ShowValues es ss ((e.0, walk_folded values e.1 p clear) ∷ values) p

-- the pixels have the walk's values at the points of the patch outside the damaged parts
abbrev pub KnowsValues : Readings → Known → Type 0
KnowsValues r k = (p : Point) → holds r.patch.rect p ≡ true → is_stale k.damaged.items p ≡ false → ShowValues r.groups k.shots.items [] p

-- so it is, and the folds are those of lower children
pub record IsKnown (r : Readings) (k : Known) : Type 0 where
  pub values : KnowsValues r k
  pub folds : IfSome k.footing (StandsOn r)

-- the same, if anything is known
abbrev pub IfKnown : Readings → Option Known → Type 0
IfKnown r None = Unit {0}
IfKnown r (Some k) = IsKnown r k

-- the walk's value of the group at a place of its path
abbrev pub value_at : List (ℕ × List Child) → ℕ → Point → Rgba
value_at groups i p = walk_folded (walk_values (take i groups) [] p) (slice_index_or groups i (0, [])).1 p clear

-- what is given has the walk's value of the group at a place of the path at the points of the patch in the tile
abbrev pub HasValue : Readings → ℕ → Key → Given → Type 0
HasValue r i key given = (p : Point) → holds r.patch.rect p ≡ true → in_tile key p ≡ true → given_on given p ≡ value_at r.groups i p

-- what is kept of the group at a place of the path has the walk's value there
abbrev pub IsKept : Readings → ℕ → Key → Kept → Type 0
IsKept r i key Nothing = Unit {0}
IsKept r i key (Whole given) = HasValue r i key given
IsKept r i key (Outside spot given) =
    IsSpot spot
    × (spot.key ≡ key)
    × ((p : Point) → holds r.patch.rect p ≡ true → in_tile key p ≡ true → holds spot.part p ≡ false → given_on given p ≡ value_at r.groups i p)
