-- What the caches show.
use Rattle.std.specs.Prelude.{◌≡◌, ℕ, true, false, Some, [], ◌∷◌, ◌++◌, map}
use Rattle.pixel_core.specs.Compose.{on_paper}
use Rattle.geom_core.specs.Areas.{holds, points_of, Point}
use Rattle.doc_model.specs.Strokes.{Exports}
use Rattle.doc_model.specs.Layers.{at}
use Rattle.doc_model.specs.Picture.{Frame, picture, frame, canvas_area}
use Rattle.machine_model.specs.State.{State, head}
use Rattle.machine_model.specs.Groups.{cache}
use Rattle.machine_model.specs.Covers.{covered}
use Rattle.machine_model.specs.Event.{Act}
use Rattle.machine_model.specs.Step.{Step}
use Rattle.machine_model.specs.Caches.{CachesFold}
use Rattle.machine_model.specs.Sound.{IsOrderly, IsSound}

-- each group's cache is the fold of its children as they are now, but where something will compose the group again
abbrev pub CachesAreFolds : Type 0
CachesAreFolds = (s : State) → IsSound s → CachesFold s

-- where something will compose a group again, it will compose the root again
abbrev pub CoveredReachesRoot : Type 0
CoveredReachesRoot = (s : State) (g : ℕ) (p : Point) → IsOrderly s → covered s g p ≡ true → covered s 0 p ≡ true

-- where the root isn't covered its cache is the picture of the present document
abbrev pub CleanIsPicture : Type 0
CleanIsPicture = (s : State) → IsSound s → (p : Point) → holds (canvas_area s.canvas) p ≡ true → covered s 0 p ≡ false → at (cache s.caches 0) p ≡ picture s.present p

-- the root's cache on the canvas's paper, in row order
abbrev pub cached_frame : State → Frame
cached_frame s = map (λ p. on_paper (at (cache s.caches 0) p) s.canvas.paper) (points_of (canvas_area s.canvas))

-- the root is covered at no point of the canvas
abbrev pub IsClean : State → Type 0
IsClean s = (p : Point) → holds (canvas_area s.canvas) p ≡ true → covered s 0 p ≡ false

-- where nothing is covered the root's cache makes the frame of the present document
abbrev pub CleanIsFrame : Type 0
CleanIsFrame = (s : State) → IsSound s → IsClean s → cached_frame s ≡ frame s.present s.canvas

-- the root is clean, and one more frame is made of its cache
pub record ExportsCache (old new : State) : Type 0 where
  pub clean : IsClean old
  pub frames : new.frames ≡ old.frames ++ cached_frame old ∷ []
  pub is_frame : cached_frame old ≡ frame old.present old.canvas

-- an export takes the frame of the document from the root's cache
abbrev pub ExportIsFrame : Type 0
ExportIsFrame = (old new : State) → IsSound old → head old ≡ Some Exports → Step old Act new → ExportsCache old new
