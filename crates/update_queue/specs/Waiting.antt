-- The patches that wait to be composed anew, as contracts see them.
use Rattle.std.specs.Prelude.{◌≡◌, ℕ, pos, not, Bool, true, Option, Some, None, List, map, length, refl}
use Rattle.std.specs.List.{list_any}
use Rattle.std.specs.Coded.{Coded, code_by, coded×, coded_list}
use Rattle.geom_core.specs.Areas.{Area, area, meets, lies_in}
use Rattle.geom_core.specs.Rects.{area_code}
use Rattle.geom_core.specs.Grid.{parts}
use Rattle.doc_model.specs.declared.canvas.Patch.{Patch}
use Rattle.doc_model.specs.declared.canvas.Walk.TheVariants.{All, Up}
use Rattle.doc_model.specs.Updates.{patch, queued}
use Rattle.doc_model.specs.contracts.canvas.Patch as patches
use Rattle.machine_model.specs.Effects.{updates_with_all}

-- the part of the world that is shown, and the patches of it that wait, the next one first
pub record Waiting : Type 0 where
  pub canvas : Area
  pub patches : List Patch

-- the patches of a canvas
abbrev pub waiting : Area → List Patch → Waiting
waiting canvas patches = record { canvas = canvas; patches = patches }

-- the patches, with a rectangle or none for a group and those above it
abbrev pub widened_by : Waiting → ℕ → Option Area → Waiting
widened_by u g None = u
widened_by u g (Some rect) = waiting u.canvas (queued u.canvas u.patches (Up g) rect)

-- the patches, with each rectangle for a group and those above it
abbrev pub widened_by_all : Waiting → ℕ → List Area → Waiting
widened_by_all u g rects = waiting u.canvas (updates_with_all u.canvas g rects u.patches)

-- the largest canvas, which has 8 by 8 cells
abbrev pub largest : Area
largest = area (pos 0) (pos 0) 2048 2048

-- whether the patch meets none of the rectangles
abbrev pub avoids : List Area → Patch → Bool
avoids running p = not (list_any (meets p.rect) running)

-- all 64 places have patches of all groups: the parts of a rectangle of the largest canvas
pub record IsSpread (rect : Area) (patches : List Patch) : Type 0 where
  pub inside : lies_in rect largest ≡ true
  pub each : patches ≡ map (patch All) (parts rect)
  pub full : length patches ≡ 64

-- the code by which contracts tell lists of patches apart
abbrev pub waiting_code : Coded Waiting
waiting_code = code_by (Area × List Patch) (coded× area_code (coded_list (patches.the_row).coded)) (λ w. (w.canvas, w.patches)) (λ t. waiting t.0 t.1) (λ _. refl)
