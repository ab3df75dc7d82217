-- Points, and rectangles as sets of points.
use Rattle.std.specs.Prelude.{ℕ, suc, zero, ℤ, pos, negsuc, ◌+ℤ◌, int_le, int_lt, Bool, ◌&&◌, List, [], ◌∷◌, ◌++◌}
use Rattle.std.specs.declared.cmp.Ordering.{Ordering}
use Rattle.std.specs.Ordering.{int_cmp, ordering_then}

-- a point by its column and row
pub record Point : Type 0 where
  pub x : ℤ
  pub y : ℤ

-- the point of a column and a row
abbrev pub point : ℤ → ℤ → Point
point x y = record { x = x; y = y }

-- by row, and then by column
abbrev pub point_cmp : Point → Point → Ordering
point_cmp p q = ordering_then (int_cmp p.y q.y) (int_cmp p.x q.x)

-- w columns from x on and h rows from y on
pub record Area : Type 0 where
  pub x : ℤ
  pub y : ℤ
  pub w : ℕ
  pub h : ℕ

-- a rectangle by its corner, columns and rows
abbrev pub area : ℤ → ℤ → ℕ → ℕ → Area
area x y w h = record { x = x; y = y; w = w; h = h }

-- the column behind the last, and the row below the last
abbrev pub right : Area → ℤ
right a = a.x +ℤ pos a.w

abbrev pub bottom : Area → ℤ
bottom a = a.y +ℤ pos a.h

-- whether the rectangle holds the point
abbrev pub holds : Area → Point → Bool
holds a p = (int_le a.x p.x && int_lt p.x (right a)) && (int_le a.y p.y && int_lt p.y (bottom a))

-- whether the first rectangle lies in the second
abbrev pub lies_in : Area → Area → Bool
lies_in a b = (int_le b.x a.x && int_le (right a) (right b)) && (int_le b.y a.y && int_le (bottom a) (bottom b))

-- whether the rectangles have a point in common, where each has some
abbrev pub meets : Area → Area → Bool
meets a b = (int_lt a.x (right b) && int_lt b.x (right a)) && (int_lt a.y (bottom b) && int_lt b.y (bottom a))

-- the rectangle moved by (dx, dy)
abbrev pub moved : Area → ℤ → ℤ → Area
moved a dx dy = record a { x = a.x +ℤ dx; y = a.y +ℤ dy }

-- the world's points have x and y from -16384 to 16383
abbrev pub world : Area
world = area (negsuc 16383) (negsuc 16383) 32768 32768

-- n points of a row, from the left
abbrev pub row : ℤ → ℤ → ℕ → List Point
row x y zero = []
row x y (suc n) = point x y ∷ row (x +ℤ pos 1) y n

-- n rows of w points, from the top
abbrev pub rows : ℤ → ℤ → ℕ → ℕ → List Point
rows x y w zero = []
rows x y w (suc n) = row x y w ++ rows x (y +ℤ pos 1) w n

-- the points of a rectangle, in row order
abbrev pub points_of : Area → List Point
points_of a = rows a.x a.y a.w a.h
