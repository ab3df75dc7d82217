-- The folds of a group's lower children, which lie below all that moves.
use Rattle.std.specs.Prelude.{All, ◌≡◌, ℕ, ◌==◌, ◌⊎◌, true, if◌then◌else◌, List, [], ◌∷◌}
use Rattle.std.specs.List.{Contains}
use Rattle.pixel_core.specs.Rgba.{Rgba, clear}
use Rattle.geom_core.specs.Areas.{holds, Point}
use Rattle.geom_core.specs.Grid.{Key}
use Rattle.machine_model.specs.State.{Child}
use Rattle.machine_model.specs.Covers.{folded}
use Rattle.machine_model.specs.Groups.{on}
use Rattle.compose_core.specs.Spots.{IsSpot, given_on}
use Rattle.walker_core.specs.declared.folds.Fold.{Fold}
use Rattle.walker_core.specs.declared.known.Footing.{Footing}
use Rattle.walker_core.specs.Readings.{Readings, path_in}

-- the lower children: those below the first of these nodes
abbrev pub lower : List ℕ → List Child → List Child
lower moving [] = []
lower moving (c ∷ cs) = if on c.id moving then [] else c ∷ lower moving cs

-- the children that a walk reads of a group
abbrev pub read_of : List (ℕ × List Child) → ℕ → List Child
read_of [] g = []
read_of (e ∷ es) g = if e.0 == g then e.1 else read_of es g

-- the children of a group that lie below the painted layer and the groups that the walk composes, laid on one another at a point
abbrev pub lower_value : Readings → ℕ → ℕ → Point → Rgba
lower_value r layer g p = folded (lower (layer ∷ path_in r) (read_of r.groups g)) p clear

-- the fold has that at the points of the patch in its part
pub record IsFoldOf (r : Readings) (f : Fold) : Type 0 where
  pub spot : IsSpot f.spot
  pub on_path : on f.group (path_in r) ≡ true
  pub values : (p : Point) → holds r.patch.rect p ≡ true → holds f.spot.part p ≡ true → given_on f.given p ≡ lower_value r f.layer f.group p

-- so it is, and the fold is of that tile
abbrev pub IsFoldOn : Readings → Key → Fold → Type 0
IsFoldOn r key f = IsFoldOf r f × (f.spot.key ≡ key)

-- it is one of the known ones, of that group and the painted layer on that tile
pub record IsFoldIn (x : Footing) (g : ℕ) (key : Key) (f : Fold) : Type 0 where
  pub among : Contains x.folds.items f
  pub layer : f.layer ≡ x.layer
  pub group : f.group ≡ g
  pub tile : f.spot.key ≡ key

-- all that is known of lower children is so
abbrev pub StandsOn : Readings → Footing → Type 0
StandsOn r x = All (IsFoldOf r) x.folds.items

-- at each of its points one fold has what one of two others of the same children and tile has there
pub record Joins (a b c : Fold) : Type 0 where
  pub group : c.group ≡ a.group
  pub layer : c.layer ≡ a.layer
  pub tile : c.spot.key ≡ a.spot.key
  pub spot : IsSpot c.spot
  pub values : (p : Point) → holds c.spot.part p ≡ true → ((holds a.spot.part p ≡ true) × (given_on c.given p ≡ given_on a.given p)) ⊎ ((holds b.spot.part p ≡ true) × (given_on c.given p ≡ given_on b.given p))
