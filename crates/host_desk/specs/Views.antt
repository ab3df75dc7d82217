-- Rows of frames and shots as they are copied.
use Rattle.std.specs.Prelude.{◌≡◌, ◌⊎◌, ◌≤◌, ◌<◌, ◌*◌, ◌++◌, ◌+◌, ℕ, Some, List, length, take, drop, slice_get}
use Rattle.frame_core.specs.Frames.{Scene, row_colours}
use Rattle.frame_core.specs.Scenes.{HasSides, colours_of}
use Rattle.machine_model.specs.State.{State}
use Rattle.host_lines.specs.declared.answer.Answer.{Answer}
use Rattle.host_lines.specs.declared.answer.Answer.TheVariants as answer

-- a row of a scene was copied to the first places; or there is no such row, or too little room
abbrev pub RowOf : Scene → ℕ → List ℕ → Answer → List ℕ → Type 0
RowOf f y old answer.Done new = (y < f.height) × (new ≡ row_colours f y ++ drop (3 * f.width) old)
RowOf f y old answer.Outside new = (f.height ≤ y) × (new ≡ old)
RowOf f y old answer.NoRoom new = (length old < 3 * f.width) × (new ≡ old)
RowOf f y old a new = ⊥

-- so it is of one of the frames
abbrev pub OfFrame : State → ℕ → ℕ → List ℕ → Answer → List ℕ → Type 0
OfFrame s i y old a new = (f : Scene) × (slice_get s.frames i ≡ Some (colours_of f)) × HasSides s.canvas.w s.canvas.h f × RowOf f y old a new

abbrev pub FrameRow : State → ℕ → ℕ → List ℕ → Answer → List ℕ → Type 0
FrameRow s i y old answer.Done new = OfFrame s i y old answer.Done new
FrameRow s i y old answer.NoRoom new = OfFrame s i y old answer.NoRoom new
FrameRow s i y old answer.Outside new = ((length s.frames ≤ i) × (new ≡ old)) ⊎ OfFrame s i y old answer.Outside new
FrameRow s i y old a new = ⊥

-- of a row's colours those of w pixels from x on
abbrev pub part_colours : Scene → ℕ → ℕ → ℕ → List ℕ
part_colours f x y w = take (3 * w) (drop (3 * x) (row_colours f y))

-- w pixels from one on are points of a scene
pub record IsInside (f : Scene) (x y w : ℕ) : Type 0 where
  pub some : 1 ≤ w
  pub columns : x + w ≤ f.width
  pub row : y < f.height

-- they were copied to the first places; or they aren't all there, or there is too little room
abbrev pub PartOf : Scene → ℕ → ℕ → ℕ → List ℕ → Answer → List ℕ → Type 0
PartOf f x y w old answer.Done new = IsInside f x y w × (new ≡ part_colours f x y w ++ drop (3 * w) old)
PartOf f x y w old answer.Outside new = (IsInside f x y w → ⊥) × (new ≡ old)
PartOf f x y w old answer.NoRoom new = IsInside f x y w × (length old < 3 * w) × (new ≡ old)
PartOf f x y w old a new = ⊥
