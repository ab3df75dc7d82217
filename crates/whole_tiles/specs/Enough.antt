-- On which pixels it hangs what a job leaves in one tile.
use Rattle.std.specs.Prelude.{◌≡◌, true, [], ◌∷◌}
use Rattle.geom_core.specs.Areas.{Area, holds, Point}
use Rattle.geom_core.specs.Rects.{any_holds}
use Rattle.geom_core.specs.Grid.{Key}
use Rattle.doc_model.specs.declared.job.Job.{Job}
use Rattle.doc_model.specs.Layers.{Layer, at}
use Rattle.doc_model.specs.Jobs.{reads, writes, apply}
use Rattle.doc_model.specs.Shots.{in_tile}
use Rattle.doc_model.specs.Laws.{SameOn}

-- the job reads the rectangle, and leaves the same in the key's tile of any two layers with the same pixels there and the same default pixel
pub record IsEnough (job : Job) (key : Key) (a : Area) : Type 0 where
  pub read : (p : Point) → holds a p ≡ true → any_holds (reads job) p ≡ true
  pub enough : (one other : Layer) → SameOn (a ∷ []) one other → (p : Point) → in_tile key p ≡ true → any_holds (writes job) p ≡ true → at (apply job one) p ≡ at (apply job other) p
