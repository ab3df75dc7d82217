-- Caches of groups, and the frames that were taken of the root's.
use Rattle.std.specs.Prelude.{◌≡◌, ℕ, ◌<◌, pos, true, false, Some, List, [], ◌∷◌, ◌++◌, refl}
use Rattle.std.specs.Coded.{Coded, code_by, coded×, coded_ℕ, coded_list}
use Rattle.std.specs.Ordering.{nat_cmp}
use Rattle.std.specs.FinMap as map
use Rattle.std.specs.FinMap.{FinMap}
use Rattle.geom_core.specs.Areas.{point}
use Rattle.geom_core.specs.Grid.{key_of}
use Rattle.doc_model.specs.declared.canvas.Canvas.{Canvas}
use Rattle.doc_model.specs.Codes.{layer_code}
use Rattle.doc_model.specs.Layers.{Layer, at}
use Rattle.machine_model.specs.Groups.{cache}
use Rattle.frame_core.specs.Films.{newest}
use Rattle.frame_core.specs.Frames.{Scene, put_at, scene_code}
use Rattle.frame_core.specs.Marks.{Grid, has_mark, on_canvas}
use Rattle.desk_state.specs.Cached.{ShowsCache}

-- the caches, and the frames from the first on
pub record Filmed : Type 0 where
  pub caches : FinMap nat_cmp Layer
  pub frames : List Scene

-- these caches and frames
abbrev pub filmed_as : FinMap nat_cmp Layer → List Scene → Filmed
filmed_as caches frames = record { caches = caches; frames = frames }

-- each point of the newest frame on the largest canvas shows the root's cache, where its tile isn't marked
abbrev pub IsMarked : FinMap nat_cmp Layer → List Scene → Grid → Type 0
IsMarked caches frames laid = (s : Scene) → newest frames ≡ Some s → (x y : ℕ) → x < s.width → y < s.height → on_canvas (key_of (point (pos x) (pos y))) ≡ true → has_mark laid (key_of (point (pos x) (pos y))) ≡ false
    → put_at s (point (pos x) (pos y)) ≡ at (cache caches 0) (point (pos x) (pos y))

-- one more frame, which shows the root's cache; the caches stay
pub record TakesFrame (canvas : Canvas) (old new : Filmed) : Type 0 where
  pub shown : Scene
  pub shows : ShowsCache old.caches canvas shown
  pub new_is : new ≡ filmed_as old.caches (old.frames ++ shown ∷ [])

-- the code by which contracts tell them apart
abbrev pub filmed_code : Coded Filmed
filmed_code = code_by (FinMap nat_cmp Layer × List Scene) (coded× (map.code coded_ℕ layer_code) (coded_list scene_code)) (λ f. (f.caches, f.frames)) (λ t. filmed_as t.0 t.1) (λ _. refl)
