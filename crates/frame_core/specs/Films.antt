-- Frames of one canvas, one after another.
use Rattle.std.specs.Prelude.{◌≡◌, ℕ, zero, suc, ◌+◌, ◌-◌, ◌*◌, ◌<◌, ◌≤◌, pos, false, Option, Some, List, length, slice_get}
use Rattle.geom_core.specs.Areas.{point}
use Rattle.geom_core.specs.Grid.{key_of}
use Rattle.frame_core.specs.Marks.{Grid, has_mark}
use Rattle.frame_core.specs.Frames.{Scene, SameCanvas, put_at, rows_colours}

-- at each point that both frames have, where its tile isn't marked, the frame has the pixel of the frame before
abbrev pub Renews : Scene → Scene → Grid → Type 0
Renews s before fresh = (x y : ℕ) → x < s.width → y < s.height → x < before.width → y < before.height → has_mark fresh (key_of (point (pos x) (pos y))) ≡ false → put_at s (point (pos x) (pos y)) ≡ put_at before (point (pos x) (pos y))

-- the newest of the frames, if there is one
abbrev pub newest : List Scene → Option Scene
newest scenes = slice_get scenes (length scenes - 1)

-- a frame of the canvas of the one before it, which it renews on these tiles
pub record IsAfter (s before : Scene) (fresh : Grid) : Type 0 where
  pub alike : SameCanvas s before
  pub renews : Renews s before fresh

-- at that place stands a frame of the canvas of the one before it
abbrev pub Follows : List Scene → ℕ → Type 0
Follows scenes zero = ⊥
Follows scenes (suc k) = (before s : Scene) → slice_get scenes k ≡ Some before → slice_get scenes (suc k) ≡ Some s → SameCanvas s before

-- the frame at that place renews the frame before it, if there is one, on these tiles
abbrev pub RenewsBefore : List Scene → ℕ → Grid → Type 0
RenewsBefore scenes i fresh = (k : ℕ) (before s : Scene) → i ≡ suc k → slice_get scenes k ≡ Some before → slice_get scenes i ≡ Some s → Renews s before fresh

-- the n rows from y on are those of the frame at that place, and the band has just as many bytes
abbrev pub IsBandOf : List Scene → ℕ → ℕ → ℕ → List ℕ → Type 0
IsBandOf scenes i y n band = (s : Scene) → slice_get scenes i ≡ Some s → (y + n ≤ s.height) × (length band ≡ 3 * (s.width * n))

-- the band has the colours of the n rows from y on of the frame at that place
abbrev pub ShowsRows : List Scene → ℕ → ℕ → ℕ → List ℕ → Type 0
ShowsRows scenes i y n band = (s : Scene) → slice_get scenes i ≡ Some s → band ≡ rows_colours s y n

-- it has those of the frame before that place
abbrev pub ShowsBefore : List Scene → ℕ → ℕ → ℕ → List ℕ → Type 0
ShowsBefore scenes i y n band = (k : ℕ) → i ≡ suc k → ShowsRows scenes k y n band

-- marks for each frame; where its tiles aren't marked, a frame shows what the frame before shows
pub record IsFilm (scenes : List Scene) (fresh : List Grid) : Type 0 where
  pub marks : length fresh ≡ length scenes
  pub renewed : (i : ℕ) (before s : Scene) (g : Grid) → slice_get scenes i ≡ Some before → slice_get scenes (i + 1) ≡ Some s → slice_get fresh (i + 1) ≡ Some g → Renews s before g
