-- What a job's tile has that was painted outside.
use Rattle.std.specs.Prelude.{◌≡◌, ◌&&◌, ℕ, All, true, Some, map, slice_get}
use Rattle.geom_core.specs.Areas.{Point, holds}
use Rattle.geom_core.specs.Rects.{any_holds}
use Rattle.tile_core.specs.Blocks.{Piece, piece_at}
use Rattle.doc_model.specs.Jobs.{apply, writes}
use Rattle.doc_model.specs.Layers.{at}
use Rattle.doc_model.specs.Shots.{in_tile}
use Rattle.job_core.specs.Paints.{Paint}
use Rattle.machine_model.specs.State.{State, Painter, Paints}

-- the blocks hold just the points that the job at work in the slot writes in the tile, and have what the job makes of the shot that it was started with
pub record HasJobsValue (s : State) (place : ℕ) (p : Paint) : Type 0 where
  pub painter : Painter
  pub runs : slice_get s.slots place ≡ Some (Paints painter)
  pub covers : (q : Point) → any_holds (map (λ (b : Piece). b.rect) p.blocks) q ≡ (any_holds (writes painter.job) q && in_tile p.key q)
  pub values : All (λ (b : Piece). (q : Point) → holds b.rect q ≡ true → piece_at b q ≡ at (apply painter.job painter.shot) q) p.blocks
