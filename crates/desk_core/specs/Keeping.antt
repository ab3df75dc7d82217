-- What is known of the folds of lower children that a desk keeps.
use Rattle.std.specs.Prelude.{All, ◌≡◌, ◌<◌, ◌≤◌, ◌⊎◌, ℕ, true, Some, List, [], ◌∷◌, map, length}
use Rattle.std.specs.List.{AllByRecursion, HoldsAt}
use Rattle.pixel_core.specs.Rgba.{clear}
use Rattle.geom_core.specs.Areas.{Area, holds, lies_in, Point}
use Rattle.doc_model.specs.declared.canvas.Canvas.{Canvas}
use Rattle.doc_model.specs.declared.canvas.Walk.{Walk}
use Rattle.doc_model.specs.Picture.{canvas_area}
use Rattle.doc_model.specs.Strokes.{Stroke}
use Rattle.machine_model.specs.State.{Child, Walker, Slot, Walks, State, head_stroke}
use Rattle.machine_model.specs.Caches.{SamePixels}
use Rattle.machine_model.specs.Covers.{folded}
use Rattle.machine_model.specs.Groups.{children_of, on, path_of}
use Rattle.compose_core.specs.Spots.{IsSpot, given_on}
use Rattle.walker_core.specs.declared.folds.Fold.{Fold}
use Rattle.walker_core.specs.declared.known.Footing.{Footing}
use Rattle.walker_core.specs.Folds.{lower}
use Rattle.desk_events.specs.AtWork.{WalksAs}
use Rattle.desk_core.specs.declared.folds.Folds.{Folds}

-- the children of each group, on a canvas, and below what they are lower ones: a layer and the groups of a path
pub record Lowers : Type 0 where
  pub canvas : Canvas
  pub children : ℕ → List Child
  pub layer : ℕ
  pub path : List ℕ

-- those of now, below a layer and the groups that such a walk composes
abbrev pub lowers : State → ℕ → Walk → Lowers
lowers s layer walk = record { canvas = s.canvas; children = children_of s; layer = layer; path = path_of walk s.present }

-- the fold is of a group of the path; at its points of the canvas it shows the group's lower children, laid on one another
pub record Shows (x : Lowers) (f : Fold) : Type 0 where
  pub spot : IsSpot f.spot
  pub of_layer : f.layer ≡ x.layer
  pub on_path : on f.group x.path ≡ true
  pub values : (p : Point) → holds (canvas_area x.canvas) p ≡ true → holds f.spot.part p ≡ true → given_on f.given p ≡ folded (lower (x.layer ∷ x.path) (x.children f.group)) p clear

-- the groups that a walk at work composes
abbrev pub groups_in : Walker → List ℕ
groups_in w = map (λ (e : ℕ × List Child). e.0) w.shot

-- the pixels that the walk read of children are these ones at the points of its patch, but of the layer and of the groups that it composes
abbrev pub ReadsOthers : (ℕ → List Child) → ℕ → Walker → Type 0
ReadsOthers children layer w = (p : Point) → holds w.patch.rect p ≡ true → AllByRecursion (λ (e : ℕ × List Child). SamePixels (layer ∷ groups_in w) e.1 (children e.0) p) w.shot

-- so it is of a walk that isn't older than a serial
abbrev pub StandsSince : (ℕ → List Child) → ℕ → ℕ → Slot → Type 0
StandsSince children layer since (Walks w) = since ≤ w.serial → ReadsOthers children layer w
StandsSince children layer since slot = Unit {0}

-- all folds show what is there, and no walk at work composes what they show; walks that aren't older than a serial read what is there
pub record Stands (s : State) (f : Folds) : Type 0 where
  pub walks : (f.folds.items ≡ []) ⊎ AllByRecursion (WalksAs f.walk) s.slots
  pub folds : All (Shows (lowers s f.layer f.walk)) f.folds.items
  pub reads : AllByRecursion (StandsSince (children_of s) f.layer f.since) s.slots

-- the stroke under way paints the layer
abbrev pub PaintsOn : State → ℕ → Type 0
PaintsOn s layer = (n : ℕ) (stroke : Stroke) → s.way ≡ Some n → head_stroke s ≡ Some stroke → stroke.layer ≡ layer

-- what a desk keeps stands, and goes on to do so
pub record Keeps (s : State) (f : Folds) : Type 0 where
  pub paints : PaintsOn s f.layer
  pub stands : Stands s f

-- folds of parts of tiles
abbrev pub AreSpots : List Fold → Type 0
AreSpots folds = All (λ (f : Fold). IsSpot f.spot) folds

-- if the fold is of the layer and lies in the rectangle, it shows lower children
abbrev pub ShowsWithin : Lowers → ℕ → Area → Fold → Type 0
ShowsWithin x layer rect f = f.layer ≡ layer → lies_in f.spot.part rect ≡ true → Shows x f

-- what a walk may stand on are such folds
pub record AreOfFolds (f : Folds) (x : Footing) : Type 0 where
  pub layer : x.layer ≡ f.layer
  pub folds : (l : Lowers) → All (Shows l) f.folds.items → All (Shows l) x.folds.items

-- the fold at that place is of the same children, on the same tile
pub record IsBeside (folds : List Fold) (f : Fold) (place : ℕ) : Type 0 where
  pub below : place < length folds
  pub alike : HoldsAt (λ (a : Fold). (a.group ≡ f.group) × (a.spot.key ≡ f.spot.key)) folds place

-- such a walk starts: folds of other walks go
pub record Turns (f f' : Folds) (k : Walk) : Type 0 where
  pub walk : f'.walk ≡ k
  pub layer : f'.layer ≡ f.layer
  pub since : f'.since ≡ f.since
  pub folds : (f'.folds.items ≡ []) ⊎ ((f.walk ≡ k) × (f'.folds.items ≡ f.folds.items))
