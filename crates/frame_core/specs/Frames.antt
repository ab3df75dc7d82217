-- A frame as contracts see it: its sides, its paper, and tiles under some keys.
use Rattle.std.specs.Prelude.{◌≡◌, ℕ, ◌+◌, ◌-◌, ◌*◌, ◌≤◌, ◌<◌, min, Option, Some, None, pos, ◌*ℤ◌, ◌≤ℤ◌, ◌<ℤ◌, List, [], ◌∷◌, take, drop, ◌++◌, refl}
use Rattle.std.specs.List.{flat_map}
use Rattle.std.specs.FinMap as map
use Rattle.std.specs.FinMap.{FinMap}
use Rattle.std.specs.Coded.{Coded, code_by, coded×, coded_ℕ, coded_list}
use Rattle.pixel_core.specs.Rgba.{Rgba, clear}
use Rattle.pixel_core.specs.Words.{pixel_code}
use Rattle.pixel_core.specs.Compose.{on_paper}
use Rattle.geom_core.specs.Areas.{row, rows, area, points_of, Point}
use Rattle.geom_core.specs.Grid.{Key, key_cmp, key_of}
use Rattle.geom_core.specs.Keys.{key_code}
use Rattle.tile_core.specs.Pixels.{Pixels, pixel_or}

-- a frame's sides, its paper, and what was put
pub record Scene : Type 0 where
  pub width : ℕ
  pub height : ℕ
  pub paper : Rgba
  pub tiles : FinMap key_cmp Pixels

-- the frame of these parts
abbrev pub scene : ℕ → ℕ → Rgba → FinMap key_cmp Pixels → Scene
scene w h paper m = record { width = w; height = h; paper = paper; tiles = m }

-- 1 to 2048 columns and rows, and an opaque paper
pub record IsScene (s : Scene) : Type 0 where
  pub some_columns : 1 ≤ s.width
  pub columns : s.width ≤ 2048
  pub some_rows : 1 ≤ s.height
  pub rows : s.height ≤ 2048
  pub opaque : s.paper.a ≡ 255

-- red, green and blue of a pixel
abbrev pub colours : Rgba → List ℕ
colours p = p.r ∷ p.g ∷ p.b ∷ []

-- the colours of pixels on a paper, one after another
abbrev pub colours_on : Rgba → List Rgba → List ℕ
colours_on paper ps = flat_map (λ p. on_paper p paper) ps

-- so many bytes from one on are these, and the others are as they were
abbrev pub WritesAt : List ℕ → List ℕ → ℕ → ℕ → List ℕ → Type 0
WritesAt old new at n bytes = new ≡ take at old ++ bytes ++ drop (at + n) old

-- what was put under the key of a point
abbrev pub put_under : Scene → Point → Option Pixels
put_under s p = map.get s.tiles (key_of p)

-- the pixel put at a point, clear where none was put
abbrev pub put_at : Scene → Point → Rgba
put_at s p = pixel_or (map.get s.tiles (key_of p)) clear p

-- red, green and blue of a point
abbrev pub colours_at : Scene → Point → List ℕ
colours_at s p = on_paper (put_at s p) s.paper

-- the colours of the points of a row, from the left
abbrev pub row_colours : Scene → ℕ → List ℕ
row_colours s y = flat_map (colours_at s) (row (pos 0) (pos y) s.width)

-- the colours of the points of n rows from y on, in row order
abbrev pub rows_colours : Scene → ℕ → ℕ → List ℕ
rows_colours s y n = flat_map (colours_at s) (rows (pos 0) (pos y) s.width n)

-- the colours of all points, in row order
abbrev pub picture_colours : Scene → List ℕ
picture_colours s = flat_map (colours_at s) (points_of (area (pos 0) (pos 0) s.width s.height))

-- how many bytes the colours of all points are
abbrev pub byte_count : Scene → ℕ
byte_count s = 3 * (s.width * s.height)

-- the bytes behind those of the colours are the same
abbrev pub SameBehind : Scene → List ℕ → List ℕ → Type 0
SameBehind s old new = drop (byte_count s) new ≡ drop (byte_count s) old

-- the first bytes are the colours of all points, in row order
abbrev pub Shows : Scene → List ℕ → Type 0
Shows s bytes = take (3 * (s.width * s.height)) bytes ≡ picture_colours s

-- both frames have the same sides and the same paper
pub record SameCanvas (s before : Scene) : Type 0 where
  pub width : before.width ≡ s.width
  pub height : before.height ≡ s.height
  pub paper : before.paper ≡ s.paper

-- how many columns of points the tiles of a column have on the canvas
abbrev pub columns_in : Scene → ℕ → ℕ
columns_in s col = min 64 (s.width - 64 * col)

-- in rows of colours, the new one has those of the n points from x on, and the old one's elsewhere
abbrev pub LaysPoints : Scene → ℕ → List ℕ → List ℕ → ℕ → ℕ → Type 0
LaysPoints s y old new x n = new ≡ take (3 * x) old ++ flat_map (colours_at s) (row (pos x) (pos y) n) ++ drop (3 * (x + n)) old

-- the bytes of a band in the place of its k-th row
abbrev pub band_row : Scene → ℕ → List ℕ → List ℕ
band_row s k band = take (3 * s.width) (drop (3 * (s.width * k)) band)

-- in each of n rows from y on, the colours of n' points from x on are written in their places, and nothing else is
abbrev pub LaysRows : Scene → ℕ → ℕ → List ℕ → List ℕ → ℕ → ℕ → Type 0
LaysRows s y n old new x n' = (k : ℕ) → k < n → LaysPoints s (y + k) (band_row s k old) (band_row s k new) x n'

-- the key is that of a tile of the frame's canvas
pub record IsTileOf (s : Scene) (k : Key) : Type 0 where
  pub left : pos 0 ≤ℤ k.col
  pub right : (pos 64 *ℤ k.col) <ℤ pos s.width
  pub top : pos 0 ≤ℤ k.row
  pub bottom : (pos 64 *ℤ k.row) <ℤ pos s.height

-- the same with that tile under the key
abbrev pub with_put : Scene → Key → Pixels → Scene
with_put s k t = record s { tiles = map.insert s.tiles k t }

-- the same with what another frame has under the key, if that is something
abbrev pub with_put_of : Scene → Key → Scene → Scene
with_put_of s k other = put (map.get other.tiles k)
  where
    put : Option Pixels → Scene
    put None = s
    put (Some t) = with_put s k t

-- the code by which contracts tell frames apart
abbrev pub scene_code : Coded Scene
scene_code = code_by ((ℕ × ℕ) × (Rgba × FinMap key_cmp Pixels)) (coded× (coded× coded_ℕ coded_ℕ) (coded× pixel_code (map.code key_code (coded_list pixel_code)))) (λ s. ((s.width, s.height), (s.paper, s.tiles))) (λ t. scene t.0.0 t.0.1 t.1.0 t.1.1) (λ _. refl)
