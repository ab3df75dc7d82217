-- What somebody who watches shows of a desk's root.
use Rattle.std.specs.Prelude.{◌≡◌, false, Option, Some, None}
use Rattle.pixel_core.specs.Rgba.{Rgba}
use Rattle.geom_core.specs.Areas.{Point}
use Rattle.geom_core.specs.Grid.{Key}
use Rattle.doc_model.specs.Layers.{at}
use Rattle.doc_model.specs.Shots.{in_tile}
use Rattle.machine_model.specs.State.{State}
use Rattle.machine_model.specs.Groups.{cache}
use Rattle.desk_core.specs.Roots.{RootStays}

-- the pixel that is shown at each point, or none where it is owed
abbrev pub Seen : Type 0
Seen = Point → Option Rgba

-- each pixel that is shown is that of the root's cache
pub record SeesRoot (seen : Seen) (s : State) : Type 0 where
  pub shows : (p : Point) (c : Rgba) → seen p ≡ Some c → c ≡ at (cache s.caches 0) p

-- so is each outside that tile
pub record SeesRootBut (key : Key) (seen : Seen) (s : State) : Type 0 where
  pub shows : (p : Point) (c : Rgba) → in_tile key p ≡ false → seen p ≡ Some c → c ≡ at (cache s.caches 0) p

-- all is owed
pub record OwesAll (seen : Seen) : Type 0 where
  pub owes : (p : Point) → seen p ≡ None

-- the same is shown
pub record SeesTheSame (old new : Seen) : Type 0 where
  pub same : (p : Point) → new p ≡ old p

-- the root's cache stays
pub record KeepsRoot (old new : State) : Type 0 where
  pub root : RootStays old new
