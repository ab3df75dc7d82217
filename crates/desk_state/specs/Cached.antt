-- What a frame shows of the root's cache.
use Rattle.std.specs.Prelude.{◌≡◌, true, false, None}
use Rattle.std.specs.Ordering.{nat_cmp}
use Rattle.std.specs.FinMap as map
use Rattle.std.specs.FinMap.{FinMap}
use Rattle.geom_core.specs.Areas.{Point, holds}
use Rattle.geom_core.specs.Grid.{Key, same_key}
use Rattle.doc_model.specs.declared.canvas.Canvas.{Canvas}
use Rattle.doc_model.specs.Shots.{in_tile}
use Rattle.doc_model.specs.Layers.{Layer, at}
use Rattle.doc_model.specs.Picture.{canvas_area}
use Rattle.machine_model.specs.Groups.{cache}
use Rattle.frame_core.specs.Frames.{Scene, put_at}

-- the frame has the canvas's sides and paper, and shows the root's cache
pub record ShowsCache (caches : FinMap nat_cmp Layer) (canvas : Canvas) (s : Scene) : Type 0 where
  pub width : s.width ≡ canvas.w
  pub height : s.height ≡ canvas.h
  pub paper : s.paper ≡ canvas.paper
  pub shows : (p : Point) → holds (canvas_area canvas) p ≡ true → put_at s p ≡ at (cache caches 0) p

-- the frame shows the root's cache on that tile as well, where nothing was put there before
pub record PutsCache (caches : FinMap nat_cmp Layer) (key : Key) (old new : Scene) : Type 0 where
  pub width : new.width ≡ old.width
  pub height : new.height ≡ old.height
  pub paper : new.paper ≡ old.paper
  pub here : map.get old.tiles key ≡ None → (p : Point) → in_tile key p ≡ true → put_at new p ≡ at (cache caches 0) p
  pub others : (k : Key) → same_key k key ≡ false → map.get new.tiles k ≡ map.get old.tiles k
