-- When two walks read the same.
use Rattle.std.specs.Prelude.{◌≡◌, ℕ, true, List, map}
use Rattle.pixel_core.specs.Rgba.{Rgba}
use Rattle.geom_core.specs.Areas.{holds, Point}
use Rattle.geom_core.specs.Grid.{Key}
use Rattle.doc_model.specs.declared.tree.Look.{Look}
use Rattle.doc_model.specs.Layers.{at}
use Rattle.doc_model.specs.Shots.{in_tile}
use Rattle.machine_model.specs.State.{Child}
use Rattle.machine_model.specs.Walks.{walk_value}
use Rattle.walker_core.specs.Readings.{Readings}

-- a child's id, look and pixel at a point
abbrev pub child_at : Point → Child → ℕ × (Look × Rgba)
child_at p c = (c.id, (c.look, at c.pixels p))

-- each group with its children at a point
abbrev pub groups_at : Point → List (ℕ × List Child) → List (ℕ × List (ℕ × (Look × Rgba)))
groups_at p groups = map (λ (e : ℕ × List Child). (e.0, map (child_at p) e.1)) groups

-- both have the same patch and path and, for each group, the same children with the same looks and the same pixels at the points of the patch in the tile
pub record ReadTheSame (a b : Readings) (key : Key) : Type 0 where
  pub patch : a.patch ≡ b.patch
  pub groups : (p : Point) → holds a.patch.rect p ≡ true → in_tile key p ≡ true → groups_at p a.groups ≡ groups_at p b.groups

-- then they have the same values there
abbrev pub SameValues : Type 0
SameValues = (a b : Readings) (key : Key) → ReadTheSame a b key → (g : ℕ) (p : Point) → holds a.patch.rect p ≡ true → in_tile key p ≡ true → walk_value a.groups g p ≡ walk_value b.groups g p
