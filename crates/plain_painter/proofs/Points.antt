-- The points of a rectangle, one more at a time.
use Rattle.std.proofs.Common.{◌≡◌, ℕ, suc, zero, ◌+◌, ◌*◌, add-one, List, [], ◌∷◌, ◌++◌, map, length, take, Some, ◌≤◌, refl, sym, ap, ◌∙◌, arith, append-nil}
use Rattle.std.specs.Prelude.{ℤ, pos, ◌+ℤ◌, slice_get}
use borrow.Author.Differences.{ints}
use Rattle.std.proofs.lemmas.List.{append_assoc, map-append, length-append, take_all}
use Rattle.geom_core.specs.Areas.{Area, row, rows, points_of, Point, point}
use Rattle.plain_painter.specs.declared.spots.Spot.{Spot}
use Rattle.plain_painter.specs.Steps.{point_of}
use Rattle.plain_painter.proofs.Fronts.{item_more}

none_more : (x : ℤ) → x ≡ (x +ℤ pos 0)
none_more x = omega (arith, ints)

one_more : (x : ℤ) (n : ℕ) → ((x +ℤ pos 1) +ℤ pos n) ≡ (x +ℤ pos (suc n))
one_more x n = omega (arith, ints)

row_suc : (x y : ℤ) (n : ℕ) → row x y (suc n) ≡ row x y n ++ point (x +ℤ pos n) y ∷ []
row_suc x y zero = ap (λ z. point z y ∷ []) (none_more x)
row_suc x y (suc n) = ap (λ ps. point x y ∷ ps) (row_suc (x +ℤ pos 1) y n ∙ ap (λ z. row (x +ℤ pos 1) y n ++ point z y ∷ []) (one_more x n))

-- one point more of a row
pub row_more : (x y : ℤ) (n : ℕ) → row x y (n + 1) ≡ row x y n ++ point (x +ℤ pos n) y ∷ []
row_more x y n = ap (row x y) (add-one n) ∙ row_suc x y n

rows_suc : (x y : ℤ) (w n : ℕ) → rows x y w (suc n) ≡ rows x y w n ++ row x (y +ℤ pos n) w
rows_suc x y w zero = append-nil (row x y w) ∙ ap (λ z. row x z w) (none_more y)
rows_suc x y w (suc n) = ap (λ ps. row x y w ++ ps) (rows_suc x (y +ℤ pos 1) w n ∙ ap (λ z. rows x (y +ℤ pos 1) w n ++ row x z w) (one_more y n))
    ∙ sym (append_assoc (row x y w) (rows x (y +ℤ pos 1) w n) (row x (y +ℤ pos (suc n)) w))

-- one row more
pub rows_more : (x y : ℤ) (w n : ℕ) → rows x y w (n + 1) ≡ rows x y w n ++ row x (y +ℤ pos n) w
rows_more x y w n = ap (rows x y w) (add-one n) ∙ rows_suc x y w n

-- one point more of a row, as it is pushed
pub pushed_point : (old begun new : List Spot) (s : Spot) (x y : ℤ) (n : ℕ) → new ≡ begun ++ s ∷ [] → s.x ≡ (x +ℤ pos n) → s.y ≡ y → map point_of begun ≡ map point_of old ++ row x y n → map point_of new ≡ map point_of old ++ row x y (n + 1)
pushed_point old begun new s x y n e ex ey so = ap (map point_of) e ∙ map-append point_of begun (s ∷ [])
    ∙ (λ i. so i ++ point (ex i) (ey i) ∷ [])
    ∙ append_assoc (map point_of old) (row x y n) (point (x +ℤ pos n) y ∷ [])
    ∙ ap (λ ps. map point_of old ++ ps) (sym (row_more x y n))

-- one row more of a rectangle
pub next_row : (a : Area) (n : ℕ) (begun new : List Point) (x y : ℤ) (w : ℕ) → new ≡ begun ++ row x y w → begun ≡ rows a.x a.y a.w n → x ≡ a.x → y ≡ (a.y +ℤ pos n) → w ≡ a.w → new ≡ rows a.x a.y a.w (n + 1)
next_row a n begun new x y w e so ex ey ew = e ∙ (λ i. so i ++ row (ex i) (ey i) (ew i)) ∙ sym (rows_more a.x a.y a.w n)

row_length : (x y : ℤ) (n : ℕ) → length (row x y n) ≡ n
row_length x y zero = refl
row_length x y (suc n) = ap suc (row_length (x +ℤ pos 1) y n)

rows_length : (x y : ℤ) (w n : ℕ) → length (rows x y w n) ≡ n * w
rows_length x y w zero = let e : 0 ≡ 0 * w = grind arith in e
rows_length x y w (suc n) = length-append (row x y w) (rows x (y +ℤ pos 1) w n) ∙ (λ i. row_length x y w i + rows_length x (y +ℤ pos 1) w n i)
    ∙ (let e : w + n * w ≡ suc n * w = grind arith in e)

-- how many points a rectangle has
pub points_length : (a : Area) → length (points_of a) ≡ a.h * a.w
points_length a = rows_length a.x a.y a.w a.h

-- what is made of each point, one point more
pub mapped_more : {B : Type 0} (f : Point → B) (spots : List Spot) (i : ℕ) (s : Spot) (done new : List B) (b : B) → slice_get spots i ≡ Some s → done ≡ map f (map point_of (take i spots)) → new ≡ done ++ b ∷ [] → b ≡ f (point_of s)
    → new ≡ map f (map point_of (take (i + 1) spots))
mapped_more f spots i s done new b at so e eb = e ∙ (λ j. so j ++ eb j ∷ [])
    ∙ sym (map-append f (map point_of (take i spots)) (point_of s ∷ []))
    ∙ ap (map f) (sym (map-append point_of (take i spots) (s ∷ [])) ∙ ap (map point_of) (sym (item_more spots i s at)))

-- and all of them
pub mapped_all : {B : Type 0} (f : Point → B) (spots : List Spot) (i : ℕ) (done : List B) (a : Area) → length spots ≤ i → done ≡ map f (map point_of (take i spots)) → map point_of spots ≡ points_of a → done ≡ map f (points_of a)
mapped_all f spots i done a h so e = so ∙ ap (λ ss. map f (map point_of ss)) (take_all i spots h) ∙ ap (map f) e
