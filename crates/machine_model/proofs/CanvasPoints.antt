-- The points of a canvas, one by one and as a list in row order.
use Rattle.std.proofs.Common.{◌≡◌, ℕ, suc, zero, ◌≤◌, true, ◌&&◌, List, [], ◌∷◌, ◌++◌, map, refl, arith}
use Rattle.std.specs.Prelude.{ℤ, pos, ◌+ℤ◌, ◌≤ℤ◌, ◌<ℤ◌, int_le, int_lt}
use Rattle.std.specs.List.{AllByRecursion}
use borrow.Author.Differences.{ints}
use Rattle.geom_core.specs.Areas.{Area, right, bottom, holds, row, rows, points_of, Point}
use Rattle.geom_core.proofs.Tests.{and_left, and_right, both_true}
use Rattle.doc_model.specs.declared.canvas.Canvas.{Canvas}
use Rattle.doc_model.specs.Picture.{canvas_area}
use Rattle.doc_model.proofs.QueueLaws.{in_grid}
use Rattle.doc_model.specs.Canvases.{IsOfLimits}

in_axis : (p : ℤ) (n : ℕ) → n ≤ 2048 → (int_le (pos 0) p && int_lt p (pos 0 +ℤ pos n)) ≡ true → (int_le (pos 0) p && int_lt p (pos 0 +ℤ pos 2048)) ≡ true
in_axis p n few h = grind (arith, ints)

-- a point of a canvas of the limits is one of the largest canvas's
pub canvas_grid : (canvas : Canvas) → IsOfLimits canvas → (p : Point) → holds (canvas_area canvas) p ≡ true → in_grid p ≡ true
canvas_grid canvas limits p h = both_true _ _ (in_axis p.x canvas.w limits.w.1 (and_left _ _ h)) (in_axis p.y canvas.h limits.h.1 (and_right _ _ h))

all_append : {A : Type 0} (P : A → Type 0) (xs ys : List A) → AllByRecursion P xs → AllByRecursion P ys → AllByRecursion P (xs ++ ys)
all_append P [] ys h k = k
all_append P (x ∷ xs) ys h k = (h.0, all_append P xs ys h.1 k)

axis_held : (a p : ℤ) (n : ℕ) → a ≤ℤ p → p <ℤ (a +ℤ pos n) → (int_le a p && int_lt p (a +ℤ pos n)) ≡ true
axis_held a p n h k = grind (arith, ints)

-- the rectangle holds the points of a part of one of its rows
row_held : (a : Area) (x y : ℤ) (n : ℕ) → a.x ≤ℤ x → (x +ℤ pos n) ≤ℤ right a → a.y ≤ℤ y → y <ℤ bottom a → AllByRecursion (λ p. holds a p ≡ true) (row x y n)
row_held a x y zero h k i j = tt
row_held a x y (suc n) h k i j = (
  both_true _ _ (axis_held a.x x a.w h (omega (arith, ints))) (axis_held a.y y a.h i j),
  row_held a (x +ℤ pos 1) y n (omega (arith, ints)) (omega (arith, ints)) i j,
)

rows_held : (a : Area) (y : ℤ) (n : ℕ) → a.y ≤ℤ y → (y +ℤ pos n) ≤ℤ bottom a → AllByRecursion (λ p. holds a p ≡ true) (rows a.x y a.w n)
rows_held a y zero h k = tt
rows_held a y (suc n) h k = all_append (λ p. holds a p ≡ true) (row a.x y a.w) (rows a.x (y +ℤ pos 1) a.w n)
    (row_held a a.x y a.w (omega (arith, ints)) (omega (arith, ints)) h (omega (arith, ints)))
    (rows_held a (y +ℤ pos 1) n (omega (arith, ints)) (omega (arith, ints)))

-- it holds its points
points_held : (a : Area) → AllByRecursion (λ p. holds a p ≡ true) (points_of a)
points_held a = rows_held a a.y a.h (omega (arith, ints)) (omega (arith, ints))

-- what agrees at each point that the rectangle holds makes one list
pub same_list : {A : Type 0} (f g : Point → A) (a : Area) → ((p : Point) → holds a p ≡ true → f p ≡ g p) → map f (points_of a) ≡ map g (points_of a)
same_list f g a same = go (points_of a) (points_held a)
  where
    go : (ps : List Point) → AllByRecursion (λ p. holds a p ≡ true) ps → map f ps ≡ map g ps
    go [] all = refl
    go (p ∷ ps) all = λ i. same p all.0 i ∷ go ps all.1 i
