-- Canvases of the limits.
use Rattle.std.specs.Prelude.{◌≡◌, ◌≤◌}
use Rattle.doc_model.specs.declared.canvas.Canvas.{Canvas}

-- 1 to 2048 columns and rows, and an opaque paper
pub record IsOfLimits (canvas : Canvas) : Type 0 where
  pub w : (1 ≤ canvas.w) × (canvas.w ≤ 2048)
  pub h : (1 ≤ canvas.h) × (canvas.h ≤ 2048)
  pub paper : canvas.paper.a ≡ 255
