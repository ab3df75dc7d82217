-- Points at which no cache is out of date.
use Rattle.std.specs.Prelude.{Bool, ◌≡◌, ℕ, ◌==◌, ◌||◌, true, false, List, [], ◌∷◌}
use Rattle.std.specs.Ordering.{nat_cmp}
use Rattle.std.specs.FinMap.{FinMap}
use Rattle.std.specs.List.{AllByRecursion}
use Rattle.pixel_core.specs.Rgba.{Rgba, clear}
use Rattle.geom_core.specs.Areas.{holds, Point}
use Rattle.geom_core.specs.Rects.{any_holds}
use Rattle.frame_core.specs.Damage.{Parts, is_damaged}
use Rattle.frame_core.specs.Marks.{on_canvas}
use Rattle.geom_core.specs.Grid.{key_of}
use Rattle.doc_model.specs.Forest.{is_group}
use Rattle.doc_model.specs.Jobs.{writes}
use Rattle.doc_model.specs.Layers.{Layer, at}
use Rattle.doc_model.specs.Picture.{Doc, canvas_area}
use Rattle.machine_model.specs.State.{Slot, Free, Paints, Walks, State}
use Rattle.machine_model.specs.Groups.{cache, with_pixels, nodes_in}
use Rattle.machine_model.specs.Covers.{folded}
use Rattle.machine_model.specs.Slots.{no_painter, no_walker}
use Rattle.machine_model.specs.Walks.{walk_values}

-- values that were computed for groups are those of their caches
abbrev pub AreCached : (ℕ → Rgba) → List (ℕ × Rgba) → Type 0
AreCached cached [] = Unit {0}
AreCached cached (v ∷ vs) = (v.1 ≡ cached v.0) × AreCached cached vs

-- the caches at a point
abbrev pub cached_at : FinMap nat_cmp Layer → Point → ℕ → Rgba
cached_at caches p g = at (cache caches g) p

-- what is at work in a slot will change nothing at the point: a job doesn't write there, and of a walk that composes it the values are those of the caches
abbrev pub LeavesPoint : FinMap nat_cmp Layer → Point → Slot → Type 0
LeavesPoint caches p Free = Unit {0}
LeavesPoint caches p (Paints w) = any_holds (writes w.job) p ≡ false
LeavesPoint caches p (Walks w) = holds w.patch.rect p ≡ true → AreCached (cached_at caches p) (walk_values w.shot [] p)

-- each group's cache is the fold of its children's pixels at the point, and nothing at work will change that
pub record UpToDate (doc : Doc) (caches : FinMap nat_cmp Layer) (slots : List Slot) (p : Point) : Type 0 where
  pub folds : (g : ℕ) → ((g == 0) || is_group g doc) ≡ true → cached_at caches p g ≡ folded (with_pixels caches (nodes_in g doc)) p clear
  pub leaves : AllByRecursion (LeavesPoint caches p) slots

-- the same of a state
abbrev pub IsUpToDate : State → Point → Type 0
IsUpToDate s p = UpToDate s.present s.caches s.slots p

-- all points of the canvas but damaged ones are up to date
abbrev pub IsTracked : State → Parts → Type 0
IsTracked s d = (p : Point) → holds (canvas_area s.canvas) p ≡ true → is_damaged d p ≡ false → IsUpToDate s p

-- where it is known that all is damaged, all points of the largest canvas are
abbrev pub IsAll : Bool → Parts → Type 0
IsAll known d = (p : Point) → known ≡ true → on_canvas (key_of p) ≡ true → is_damaged d p ≡ true

-- nothing is at work, and nothing waits to be composed
pub record IsStill (s : State) : Type 0 where
  pub updates : s.updates ≡ []
  pub painters : no_painter s ≡ true
  pub walkers : no_walker s ≡ true
