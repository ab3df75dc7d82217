-- The list of patches with all places taken, by computing.
use Rattle.std.proofs.Common.{◌≡◌, ℕ, suc, zero, List, [], ◌∷◌, ◌++◌, length, refl, pos}
use Rattle.geom_core.specs.Areas.{Area, area}
use Rattle.geom_core.specs.Grid.{cells}
use Rattle.doc_model.specs.declared.canvas.Patch.{Patch}
use Rattle.doc_model.specs.declared.canvas.Walk.TheVariants.{Up, All}
use Rattle.doc_model.specs.Updates.{queued, patch}

canvas : Area
canvas = area (pos 0) (pos 0) 2048 2048

-- n patches of one point, each of a group of its own
patches : ℕ → List Patch
patches zero = []
patches (suc n) = patch (Up n) (area (pos 5) (pos 5) 1 1) ∷ patches n

-- a place is left
last_place : queued canvas (patches 63) (Up 63) (area (pos 9) (pos 7) 1 1) ≡ patches 63 ++ patch (Up 63) (area (pos 9) (pos 7) 1 1) ∷ []
unfolding canvas patches queued cells
last_place = refl

-- no place is left: one walk of all groups stands for all of them
no_place : queued canvas (patches 64) (Up 64) (area (pos 9) (pos 7) 1 1) ≡ patch All (area (pos 5) (pos 5) 5 3) ∷ []
unfolding canvas patches queued cells
no_place = refl

-- a walk that is queued in the same cell takes no place
taken_in : length (queued canvas (patches 64) (Up 3) (area (pos 9) (pos 7) 1 1)) ≡ 64
unfolding canvas patches queued cells
taken_in = refl
