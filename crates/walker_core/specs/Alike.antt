-- When groups have the same children on a tile.
use Rattle.std.specs.Prelude.{◌≡◌, ℕ, true, List, map}
use Rattle.geom_core.specs.Areas.{Area, holds, Point}
use Rattle.geom_core.specs.Grid.{Key}
use Rattle.doc_model.specs.Shots.{in_tile}
use Rattle.machine_model.specs.State.{Child}
use Rattle.walker_core.specs.declared.gathered.Source.{Source}
use Rattle.walker_core.specs.Sameness.{child_at, groups_at}
use Rattle.walker_core.specs.Views.{groups_of}

-- the rectangle has a point in the key's tile
pub record HasPointIn (rect : Area) (key : Key) : Type 0 where
  pub point : Point
  pub held : holds rect point ≡ true
  pub inside : in_tile key point ≡ true

-- both children have the same id, look and pixels, at the points of the rectangle in the key's tile
abbrev pub AlikeChild : Area → Key → Child → Child → Type 0
AlikeChild rect key c d = (p : Point) → holds rect p ≡ true → in_tile key p ≡ true → child_at p c ≡ child_at p d

-- the same of each child, in their order
abbrev pub AlikeChildren : Area → Key → List Child → List Child → Type 0
AlikeChildren rect key cs ds = (p : Point) → holds rect p ≡ true → in_tile key p ≡ true → map (child_at p) cs ≡ map (child_at p) ds

-- the same of the children of each group
abbrev pub AlikeGroups : Area → Key → List ℕ → List Source → List Source → Type 0
AlikeGroups rect key path xs ys = (p : Point) → holds rect p ≡ true → in_tile key p ≡ true → groups_at p (groups_of rect xs path) ≡ groups_at p (groups_of rect ys path)
