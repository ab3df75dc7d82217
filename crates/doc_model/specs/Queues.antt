-- What holds of the patches that wait, and which points wait for a walk.
use Rattle.std.specs.Prelude.{◌≡◌, ◌≤◌, Bool, true, ◌&&◌, not, List, [], ◌∷◌, length}
use Rattle.std.specs.List.{list_any, list_all}
use Rattle.geom_core.specs.Areas.{Area, holds, lies_in, Point}
use Rattle.geom_core.specs.Grid.{cell, cell_of}
use Rattle.doc_model.specs.declared.canvas.Walk.{Walk}
use Rattle.doc_model.specs.declared.canvas.Patch.{Patch}
use Rattle.doc_model.specs.Updates.{same_walk, one_cell}

-- whether two patches have the same walk and cell
abbrev pub alike : Patch → Patch → Bool
alike a b = same_walk a.walk b.walk && one_cell a.rect b.rect

-- whether no two patches are alike
abbrev pub all_unlike : List Patch → Bool
all_unlike [] = true
all_unlike (p ∷ ps) = list_all (λ q. not (alike p q)) ps && all_unlike ps

-- the patch lies in one cell and in the canvas
abbrev pub in_place : Area → Patch → Bool
in_place canvas p = lies_in p.rect (cell (cell_of p.rect)) && lies_in p.rect canvas

-- what holds of every list of patches
pub record IsQueue (canvas : Area) (patches : List Patch) : Type 0 where
  pub places : list_all (in_place canvas) patches ≡ true
  pub unlike : all_unlike patches ≡ true
  pub few : length patches ≤ 64

-- whether the point waits for a walk of those that covers picks: a patch of such a walk holds it
abbrev pub queued_for : (Walk → Bool) → List Patch → Point → Bool
queued_for covers patches p = list_any (λ (q : Patch). covers q.walk && holds q.rect p) patches
