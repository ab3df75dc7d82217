-- How the children of a group are laid, the lower ones first.
use Rattle.std.specs.Prelude.{◌≡◌, ◌≤◌, ◌⊎◌, ℕ, true, Option, None, Some, IfSome, List, take, slice_index_or, length}
use Rattle.std.specs.Borrow.{Bor}
use Rattle.pixel_core.specs.Rgba.{Rgba, clear}
use Rattle.geom_core.specs.Areas.{Area, holds, Point}
use Rattle.geom_core.specs.Grid.{Key}
use Rattle.doc_model.specs.Shots.{in_tile}
use Rattle.machine_model.specs.Walks.{walk_folded}
use Rattle.compose_core.specs.declared.children.Given.{Given}
use Rattle.compose_core.specs.declared.pile.Pile.{Pile}
use Rattle.compose_core.specs.declared.spot.Spot.{Spot}
use Rattle.compose_core.specs.Piles.{pile_at}
use Rattle.compose_core.specs.Spots.{given_on}
use Rattle.walker_core.specs.declared.folds.Fold.{Fold}
use Rattle.walker_core.specs.declared.folds.Lower.{Lower}
use Rattle.walker_core.specs.declared.gathered.Source.{Source}
use Rattle.walker_core.specs.declared.row.Below.{Below}
use Rattle.walker_core.specs.Readings.{Readings, path_in}
use Rattle.walker_core.specs.Rows.{values_of}
use Rattle.walker_core.specs.Views.{children_in, groups_of}
use Rattle.walker_core.specs.Folds.{lower}

-- they are the children of all groups of a walk
abbrev pub AreSources : Readings → List Source → Type 0
AreSources r sources = r.groups ≡ groups_of r.patch.rect sources (path_in r)

-- the group that comes next on the path
abbrev pub next_group : Readings → Below → ℕ
next_group r below = slice_index_or (path_in r) (length below.given.now) 0

-- the group's children that are among these are laid on the pile at the points of the rectangle in the tile
abbrev pub LaysSources : Area → Key → Below → ℕ → List Source → Pile → Pile → Type 0
LaysSources rect key below g sources old new = (p : Point) → holds rect p ≡ true → in_tile key p ≡ true
    → pile_at new p ≡ walk_folded (values_of below.path.now below.given.now p) (children_in rect g sources) p (pile_at old p)

-- at the points of the rectangle in a part these are the group's children among the sources, laid on one another
abbrev pub ShowsSources : Area → Below → ℕ → List Source → Area → (Point → Rgba) → Type 0
ShowsSources rect below g sources part shown = (p : Point) → holds rect p ≡ true → holds part p ≡ true
    → shown p ≡ walk_folded (values_of below.path.now below.given.now p) (children_in rect g sources) p clear

-- so it is of what a fold has, on its part
abbrev pub FoldsSources : Area → Below → ℕ → List Source → Fold → Type 0
FoldsSources rect below g sources f = ShowsSources rect below g sources f.spot.part (given_on f.given)

-- so it is of what is known of them, if something is
abbrev pub KnowsSources : Area → Below → Lower → Type 0
KnowsSources rect below l = IfSome l.known (λ f. FoldsSources rect below l.group l.sources.now f.now)

-- the fold names the group and the painted layer
pub record IsNamed (g painted : ℕ) (f : Fold) : Type 0 where
  pub group : f.group ≡ g
  pub layer : f.layer ≡ painted

-- before that place of the list the group has just its lower children
pub record IsEnd (sources : List Source) (g : ℕ) (moving : List ℕ) (end : ℕ) : Type 0 where
  pub within : end ≤ length sources
  pub lower_ones : (rect : Area) → children_in rect g (take end sources) ≡ lower moving (children_in rect g sources)

-- the pile has the next group's children before that place of the list at the points of the patch in the spot
abbrev pub LaysUpTo : Readings → List Source → Spot → Below → ℕ → Pile → Type 0
LaysUpTo r sources spot below end pile = (p : Point) → holds r.patch.rect p ≡ true → holds spot.part p ≡ true
    → pile_at pile p ≡ walk_folded (values_of below.path.now below.given.now p) (children_in r.patch.rect (next_group r below) (take end sources)) p clear

-- what is given has what a known fold has at a point of its part
abbrev pub IsOfKnown : Option (Bor Fold) → Given → Point → Type 0
IsOfKnown None given p = ⊥
IsOfKnown (Some f) given p = (holds f.now.spot.part p ≡ true) × (given_on given p ≡ given_on f.now.given p)

-- at each point of the part it has what the pile has, or that
abbrev pub ShowsEither : Option (Bor Fold) → Pile → Area → Given → Type 0
ShowsEither known pile part given = (p : Point) → holds part p ≡ true → (given_on given p ≡ pile_at pile p) ⊎ IsOfKnown known given p
