-- Squares of pixels in rows as squares of points.
use Rattle.std.proofs.Common.{◌≡◌, ℕ, zero, suc, ◌+◌, ◌*◌, ◌<◌, true, ◌&&◌, List, ◌∷◌, ◌++◌, get_or, map, refl, sym, ap, ◌∙◌, arith}
use Rattle.std.specs.Prelude.{ℤ, pos, ◌+ℤ◌, ◌-ℤ◌, int_le, int_lt, nat_abs, sum}
use borrow.Author.Differences.{ints}
use Rattle.std.proofs.lemmas.List.Sums.{sum_by-append, sum_by-cons}
use Rattle.std.proofs.lemmas.List.{map-append}
use Rattle.pixel_core.specs.Rgba.{Rgba, clear}
use Rattle.geom_core.specs.Areas.{Area, holds, row, rows, points_of, Point, point}
use Rattle.geom_core.specs.Rects.{place_in}
use Rattle.geom_core.proofs.Tests.{and_left, and_right, both_true}
use Rattle.doc_model.specs.Jobs.{weighed, mean, square, grown}
use Rattle.tile_core.specs.Pixels.{HasPixels}
use Rattle.tile_core.specs.Shots.{Sight, sight_at}
use Rattle.tile_core.specs.Blocks.{Piece, piece_at}
use Rattle.blur_core.specs.declared.sums.Sums.{Sums}
use Rattle.blur_core.specs.Sums.{sums, weigh, plus, sum_from, mean_of}
use Rattle.blur_core.specs.Rows.{pixel_of, square_sums, HasMeans}
use Rattle.blur_core.specs.Blur.{blurred}
use Rattle.blur_core.proofs.Summing.{same_sums, sum_from-zero, sum_from_front, sums_exchanged}

-- the sums over a list of pixels
abbrev sums_of : List Rgba → Sums
sums_of pixels = sums (sum (map (λ (q : Rgba). q.a) pixels)) (weighed (λ q. q.r) pixels) (weighed (λ q. q.g) pixels) (weighed (λ q. q.b) pixels)

mean_is : (n : ℕ) (pixels : List Rgba) → mean n pixels ≡ mean_of n (sums_of pixels)
mean_is n pixels = refl

sum-map-cons : (f : Rgba → ℕ) (q : Rgba) (qs : List Rgba) → sum (map f (q ∷ qs)) ≡ f q + sum (map f qs)
sum-map-cons f q qs = sum_by-cons (λ (n : ℕ). n) (f q) (map f qs)

sum-map-append : (f : Rgba → ℕ) (ps qs : List Rgba) → sum (map f (ps ++ qs)) ≡ sum (map f ps) + sum (map f qs)
sum-map-append f ps qs = ap sum (map-append f ps qs) ∙ sum_by-append (λ (n : ℕ). n) (map f ps) (map f qs)

sums_of-cons : (q : Rgba) (qs : List Rgba) → sums_of (q ∷ qs) ≡ plus (weigh q) (sums_of qs)
sums_of-cons q qs = same_sums _ _ (sum-map-cons (λ p. p.a) q qs) (sum-map-cons (λ p. p.a * p.r) q qs) (sum-map-cons (λ p. p.a * p.g) q qs) (sum-map-cons (λ p. p.a * p.b) q qs)

sums_of-append : (ps qs : List Rgba) → sums_of (ps ++ qs) ≡ plus (sums_of ps) (sums_of qs)
sums_of-append ps qs = same_sums _ _ (sum-map-append (λ p. p.a) ps qs) (sum-map-append (λ p. p.a * p.r) ps qs) (sum-map-append (λ p. p.a * p.g) ps qs) (sum-map-append (λ p. p.a * p.b) ps qs)

further : (x : ℤ) (j : ℕ) → x +ℤ pos (suc j) ≡ (x +ℤ pos 1) +ℤ pos j
further x j = omega (arith, ints)

not_further : (x : ℤ) → x +ℤ pos 0 ≡ x
not_further x = omega (arith, ints)

-- the pixels of a row of points
row_sums : (g : Point → Rgba) (f : ℕ → Sums) (x y : ℤ) (a n : ℕ) → ((j : ℕ) → j < n → f (a + j) ≡ weigh (g (point (x +ℤ pos j) y))) → sums_of (map g (row x y n)) ≡ sum_from f a n
row_sums g f x y a zero same = sym (sum_from-zero f a)
row_sums g f x y a (suc n) same =
    let e : a + 0 ≡ a = omega arith in
    let first : weigh (g (point x y)) ≡ f a = sym (ap (λ (z : ℤ). weigh (g (point z y))) (not_further x)) ∙ sym (same 0 (omega arith)) ∙ ap f e in
    sums_of-cons (g (point x y)) (map g (row (x +ℤ pos 1) y n))
    ∙ ap (λ s. plus s (sums_of (map g (row (x +ℤ pos 1) y n)))) first
    ∙ ap (plus (f a)) (row_sums g f (x +ℤ pos 1) y (a + 1) n (λ j h. let m : (a + 1) + j ≡ a + suc j = omega arith in ap f m ∙ same (suc j) (omega arith) ∙ ap (λ (z : ℤ). weigh (g (point z y))) (further x j)))
    ∙ sym (sum_from_front f a n)

-- the pixels of rows of points
rows_sums : (g : Point → Rgba) (f : ℕ → ℕ → Sums) (x y : ℤ) (w a b n : ℕ) → ((k j : ℕ) → k < n → j < w → f (b + k) (a + j) ≡ weigh (g (point (x +ℤ pos j) (y +ℤ pos k))))
    → sums_of (map g (rows x y w n)) ≡ sum_from (λ i. sum_from (f i) a w) b n
rows_sums g f x y w a b zero same = sym (sum_from-zero (λ i. sum_from (f i) a w) b)
rows_sums g f x y w a b (suc n) same =
    let e : b + 0 ≡ b = omega arith in
    let first : sums_of (map g (row x y w)) ≡ sum_from (f b) a w = row_sums g (f b) x y a w (λ j h. ap (λ i. f i (a + j)) (sym e) ∙ same 0 j (omega arith) h ∙ ap (λ (z : ℤ). weigh (g (point (x +ℤ pos j) z))) (not_further y)) in
    ap sums_of (map-append g (row x y w) (rows x (y +ℤ pos 1) w n))
    ∙ sums_of-append (map g (row x y w)) (map g (rows x (y +ℤ pos 1) w n))
    ∙ ap (λ s. plus s (sums_of (map g (rows x (y +ℤ pos 1) w n)))) first
    ∙ ap (plus (sum_from (f b) a w)) (rows_sums g f x (y +ℤ pos 1) w a (b + 1) n (λ k j hk hj. let m : (b + 1) + k ≡ b + suc k = omega arith in ap (λ i. f i (a + j)) m ∙ same (suc k) j (omega arith) hj ∙ ap (λ (z : ℤ). weigh (g (point (x +ℤ pos j) z))) (further y k)))
    ∙ sym (sum_from_front (λ i. sum_from (f i) a w) b n)

-- along one axis, a number of the square as one of the wider rectangle
axis_held : (a x : ℤ) (w r j : ℕ) → (int_le a x && int_lt x (a +ℤ pos w)) ≡ true → j < 2 * r + 1
    → (int_le (a -ℤ pos r) ((x -ℤ pos r) +ℤ pos j) && int_lt ((x -ℤ pos r) +ℤ pos j) ((a -ℤ pos r) +ℤ pos (w + 2 * r))) ≡ true
axis_held a x w r j h l = grind (arith, ints)

axis_place : (a x : ℤ) (w r j : ℕ) → (int_le a x && int_lt x (a +ℤ pos w)) ≡ true → nat_abs (((x -ℤ pos r) +ℤ pos j) -ℤ (a -ℤ pos r)) ≡ nat_abs (x -ℤ a) + j
axis_place a x w r j h = let low : int_le a x ≡ true = and_left _ _ h in grind (arith, ints)

axis_small : (a x : ℤ) (w : ℕ) → (int_le a x && int_lt x (a +ℤ pos w)) ≡ true → nat_abs (x -ℤ a) < w
axis_small a x w h = grind (arith, ints)

-- a pixel of the square
square_pixel : (s : Sight) (a : Area) (r : ℕ) (p : Point) (pixels : List Rgba) (k j : ℕ) → HasPixels (grown a r) (sight_at s) pixels → holds a p ≡ true → k < 2 * r + 1 → j < 2 * r + 1
    → pixel_of pixels (a.w + 2 * r) (nat_abs (p.x -ℤ a.x) + j) (nat_abs (p.y -ℤ a.y) + k) ≡ sight_at s (point ((p.x -ℤ pos r) +ℤ pos j) ((p.y -ℤ pos r) +ℤ pos k))
square_pixel s a r p pixels k j has held hk hj =
    let q : Point = point ((p.x -ℤ pos r) +ℤ pos j) ((p.y -ℤ pos r) +ℤ pos k) in
    let hx : (int_le a.x p.x && int_lt p.x (a.x +ℤ pos a.w)) ≡ true = and_left _ _ held in
    let hy : (int_le a.y p.y && int_lt p.y (a.y +ℤ pos a.h)) ≡ true = and_right _ _ held in
    let there : holds (grown a r) q ≡ true = both_true _ _ (axis_held a.x p.x a.w r j hx hj) (axis_held a.y p.y a.h r k hy hk) in
    sym (ap (λ n. get_or pixels (n * (a.w + 2 * r) + nat_abs (q.x -ℤ (a.x -ℤ pos r))) clear) (axis_place a.y p.y a.h r k hy)
    ∙ ap (λ n. get_or pixels ((nat_abs (p.y -ℤ a.y) + k) * (a.w + 2 * r) + n) clear) (axis_place a.x p.x a.w r j hx))
    ∙ has q there

square_is : (s : Sight) (a : Area) (r : ℕ) (p : Point) (pixels : List Rgba) → HasPixels (grown a r) (sight_at s) pixels → holds a p ≡ true
    → square_sums pixels (a.w + 2 * r) (2 * r + 1) (nat_abs (p.x -ℤ a.x)) (nat_abs (p.y -ℤ a.y)) ≡ sums_of (map (sight_at s) (points_of (square p.x p.y r)))
square_is s a r p pixels has held =
    let f : ℕ → ℕ → Sums = (λ i c. weigh (pixel_of pixels (a.w + 2 * r) c i)) in
    sums_exchanged f (nat_abs (p.x -ℤ a.x)) (2 * r + 1) (nat_abs (p.y -ℤ a.y)) (2 * r + 1)
    ∙ sym (rows_sums (sight_at s) f (p.x -ℤ pos r) (p.y -ℤ pos r) (2 * r + 1) (nat_abs (p.x -ℤ a.x)) (nat_abs (p.y -ℤ a.y)) (2 * r + 1) (λ k j hk hj. ap weigh (square_pixel s a r p pixels k j has held hk hj)))

-- the means of the squares are the blur
pub means_blur : (s : Sight) (a : Area) (r w h more : ℕ) (pixels means : List Rgba) (b : Piece) → HasPixels (grown a r) (sight_at s) pixels → w ≡ a.w → h ≡ a.h → more ≡ 2 * r
    → HasMeans pixels (w + more) (more + 1) w h means → b.rect ≡ a → b.pixels ≡ means → (p : Point) → holds a p ≡ true → piece_at b p ≡ blurred s r p
means_blur s a r w h more pixels means b has ew eh em made er ep p held =
    let made' : HasMeans pixels (a.w + 2 * r) (2 * r + 1) a.w a.h means = rw (← ew, ← eh, ← em) made in
    ap (λ ps. get_or ps (place_in b.rect p) clear) ep
    ∙ ap (λ (c : Area). get_or means (place_in c p) clear) er
    ∙ made' (nat_abs (p.x -ℤ a.x)) (nat_abs (p.y -ℤ a.y)) (axis_small a.x p.x a.w (and_left _ _ held)) (axis_small a.y p.y a.h (and_right _ _ held))
    ∙ ap (mean_of ((2 * r + 1) * (2 * r + 1))) (square_is s a r p pixels has held)
    ∙ sym (mean_is ((2 * r + 1) * (2 * r + 1)) (map (sight_at s) (points_of (square p.x p.y r))))
