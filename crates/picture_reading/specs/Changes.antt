-- Where two pictures differ.
use Rattle.std.specs.Prelude.{◌≡◌, ◌≢◌, ℕ, ◌+◌, ◌*◌, ◌/◌, max, min, ◌<◌, ◌≤◌, ◌⊎◌, Option, Some, None}
use Rattle.picture_reading.specs.Pictures.{Shown}
use Rattle.picture_reading.specs.declared.changed.Sides.{Sides}

-- two pictures with as many columns and rows
pub record SameSides (s t : Shown) : Type 0 where
  pub width : s.width ≡ t.width
  pub height : s.height ≡ t.height

-- a point of the canvas at which they have different pixels
pub record DiffersAt (s t : Shown) (x y : ℕ) : Type 0 where
  pub in_columns : x < s.width
  pub in_rows : y < s.height
  pub other : s.pixel x y ≢ t.pixel x y

-- a point of the canvas in the tile of a column and a row
pub record IsOnTile (s : Shown) (col row x y : ℕ) : Type 0 where
  pub in_columns : x < s.width
  pub in_rows : y < s.height
  pub across : x / 64 ≡ col
  pub down : y / 64 ≡ row

-- a point in the columns from one up to another, and in the rows from one up to another
pub record IsBetween (left top right bottom x y : ℕ) : Type 0 where
  pub from_left : left ≤ x
  pub to_right : x < right
  pub from_top : top ≤ y
  pub to_bottom : y < bottom

-- each tile with a difference lies there, as far as it is on the canvas
abbrev pub AllDifferBetween : Shown → Shown → ℕ → ℕ → ℕ → ℕ → Type 0
AllDifferBetween s t left top right bottom = (x y x' y' : ℕ) → DiffersAt s t x y → IsOnTile s (x / 64) (y / 64) x' y' → IsBetween left top right bottom x' y'

-- the columns and rows of a rectangle are some of those of another
pub record LiesWithin (left top right bottom left' top' right' bottom' : ℕ) : Type 0 where
  pub at_left : left' ≤ left
  pub at_right : right ≤ right'
  pub at_top : top' ≤ top
  pub at_bottom : bottom ≤ bottom'

-- these tiles lie in the rectangle, and it lies in each other rectangle in which they do
pub record IsLeastRound (s t : Shown) (x y w h : ℕ) : Type 0 where
  pub around : AllDifferBetween s t x y (x + w) (y + h)
  pub least : (left top right bottom : ℕ) → AllDifferBetween s t left top right bottom → LiesWithin x y (x + w) (y + h) left top right bottom

-- the pictures have the same pixels at the points of the canvas that aren't in the rectangle
abbrev pub AgreeOutside : Shown → Shown → ℕ → ℕ → ℕ → ℕ → Type 0
AgreeOutside s t x y w h = (col row : ℕ) → col < s.width → row < s.height → (IsBetween x y (x + w) (y + h) col row → ⊥) → s.pixel col row ≡ t.pixel col row

-- they have the same pixels everywhere
abbrev pub Agree : Shown → Shown → Type 0
Agree s t = (x y : ℕ) → x < s.width → y < s.height → s.pixel x y ≡ t.pixel x y

-- they have the same pixels on a tile
abbrev pub AgreeOn : Shown → Shown → ℕ → ℕ → Type 0
AgreeOn s t col row = (x y : ℕ) → IsOnTile s col row x y → s.pixel x y ≡ t.pixel x y

-- they don't
abbrev pub DifferOn : Shown → Shown → ℕ → ℕ → Type 0
DifferOn s t col row = (x : ℕ) × ((y : ℕ) × (IsOnTile s col row x y × DiffersAt s t x y))

-- the tile of a column and a row comes before another one, in row order
abbrev pub IsBefore : ℕ → ℕ → ℕ → ℕ → Type 0
IsBefore col row col' row' = (row < row') ⊎ ((row ≡ row') × (col < col'))

-- a point at which they differ, in a tile before that one
pub record DiffersBefore (s t : Shown) (col row x y : ℕ) : Type 0 where
  pub differs : DiffersAt s t x y
  pub before : IsBefore (x / 64) (y / 64) col row

-- the tiles with a difference before that one lie there, as far as they are on the canvas
abbrev pub AllBeforeBetween : Shown → Shown → ℕ → ℕ → ℕ → ℕ → ℕ → ℕ → Type 0
AllBeforeBetween s t col row left top right bottom = (x y x' y' : ℕ) → DiffersBefore s t col row x y → IsOnTile s (x / 64) (y / 64) x' y' → IsBetween left top right bottom x' y'

-- the least rectangle round the tiles with a difference before that one
pub record IsRound (s t : Shown) (col row : ℕ) (p : Sides) : Type 0 where
  pub some_columns : p.left < p.right
  pub columns : p.right ≤ s.width
  pub some_rows : p.top < p.bottom
  pub rows : p.bottom ≤ s.height
  pub around : AllBeforeBetween s t col row p.left p.top p.right p.bottom
  pub least : (left top right bottom : ℕ) → AllBeforeBetween s t col row left top right bottom → LiesWithin p.left p.top p.right p.bottom left top right bottom

-- the same, where there may be no such tile
abbrev pub IsRoundOf : Shown → Shown → ℕ → ℕ → Option Sides → Type 0
IsRoundOf s t col row None = (x y : ℕ) → DiffersBefore s t col row x y → ⊥
IsRoundOf s t col row (Some p) = IsRound s t col row p

-- the points of a tile on the canvas
pub record IsTile (s : Shown) (col row : ℕ) (p : Sides) : Type 0 where
  pub some_columns : p.left < p.right
  pub columns : p.right ≤ s.width
  pub some_rows : p.top < p.bottom
  pub rows : p.bottom ≤ s.height
  pub left : p.left ≡ 64 * col
  pub top : p.top ≡ 64 * row
  pub right : p.right ≡ min (64 * col + 64) s.width
  pub bottom : p.bottom ≡ min (64 * row + 64) s.height

-- the least sides round both
pub record IsBoth (p q r : Sides) : Type 0 where
  pub left : r.left ≡ min p.left q.left
  pub top : r.top ≡ min p.top q.top
  pub right : r.right ≡ max p.right q.right
  pub bottom : r.bottom ≡ max p.bottom q.bottom

-- the same, where the first may not be there
abbrev pub IsJoined : Option Sides → Sides → Sides → Type 0
IsJoined None q r = r ≡ q
IsJoined (Some p) q r = IsBoth p q r
