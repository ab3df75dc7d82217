-- The centres of a track's dabs, segment by segment.
use Rattle.std.proofs.Common.{◌≡◌, ℕ, suc, zero, ◌+◌, ◌-◌, ◌*◌, ◌≤◌, ◌<◌, List, [], ◌∷◌, ◌++◌, length, length-append, map, drop, Some, arith, refl, sym, ap, ◌∙◌, subst, add-one}
use Rattle.std.specs.Prelude.{ℤ, slice_get}
use Rattle.std.specs.List.{range_with_len}
use Rattle.std.proofs.lemmas.List.FromFn.{length-map-range_with_len, get_or-map-range_with_len}
use Rattle.std.proofs.lemmas.Option.{slice_get-get_or}
use Rattle.geom_core.specs.Areas.{Point}
use Rattle.doc_model.specs.Trails.{along, how_many_on, on_segment, centres_along}
use Rattle.doc_model.specs.Tracks.{point_of}

pub length-on_segment : (gap : ℕ) (p q : Point) → length (on_segment gap p q) ≡ how_many_on gap p q
unfolding on_segment
length-on_segment gap p q = length-map-range_with_len (λ k. along p q (k * gap)) 0 (how_many_on gap p q)

pub get-on_segment : (gap : ℕ) (p q : Point) (i : ℕ) → i < how_many_on gap p q → slice_get (on_segment gap p q) i ≡ Some (along p q (i * gap))
unfolding on_segment
get-on_segment gap p q i h =
    let long : i < length (map (λ k. along p q (k * gap)) (range_with_len 0 (how_many_on gap p q))) = omega (arith, length-map-range_with_len (λ k. along p q (k * gap)) 0 (how_many_on gap p q)) in
    slice_get-get_or (map (λ k. along p q (k * gap)) (range_with_len 0 (how_many_on gap p q))) i p long
    ∙ ap Some (get_or-map-range_with_len (λ k. along p q (k * gap)) 0 (how_many_on gap p q) i i p h (omega arith))

pub get-front : {A : Type 0} (xs ys : List A) (i : ℕ) → i < length xs → slice_get (xs ++ ys) i ≡ slice_get xs i
get-front [] ys i h = absurd (omega arith)
get-front (x ∷ xs) ys zero h = refl
get-front (x ∷ xs) ys (suc i) h = get-front xs ys i (omega arith)

pub get-back : {A : Type 0} (xs ys : List A) (i j : ℕ) → i ≡ length xs + j → slice_get (xs ++ ys) i ≡ slice_get ys j
get-back [] ys i j h = ap (slice_get ys) (h ∙ omega arith)
get-back (x ∷ xs) ys zero j h = absurd (omega arith)
get-back (x ∷ xs) ys (suc i) j h = get-back xs ys i j (omega arith)

-- the centres along these points
abbrev pub chain : ℕ → List (ℤ × ℤ) → List Point
chain gap ps = centres_along gap (map point_of ps)

-- those on one segment, and those on the rest
pub cut : (gap : ℕ) (ps : List (ℤ × ℤ)) (i : ℕ) (p q : ℤ × ℤ) → Some p ≡ slice_get ps i → Some q ≡ slice_get ps (suc i)
    → chain gap (drop i ps) ≡ on_segment gap (point_of p) (point_of q) ++ chain gap (drop (suc i) ps)
cut gap [] i p q e f = cc
cut gap (a ∷ []) zero p q e f = cc
cut gap (a ∷ b ∷ ps) zero p q e f =
    let x : p ≡ a = cc in
    let y : q ≡ b = cc in
    λ j. on_segment gap (point_of (sym x j)) (point_of (sym y j)) ++ chain gap (b ∷ ps)
cut gap (a ∷ ps) (suc i) p q e f = cut gap ps i p q e f

-- at the last point there is one
pub cut_last : (gap : ℕ) (ps : List (ℤ × ℤ)) (i : ℕ) (p : ℤ × ℤ) → Some p ≡ slice_get ps i → suc i ≡ length ps → chain gap (drop i ps) ≡ point_of p ∷ []
cut_last gap [] i p e l = cc
cut_last gap (a ∷ []) zero p e l = let x : a ≡ p = cc in ap (λ t. point_of t ∷ []) x
cut_last gap (a ∷ b ∷ ps) zero p e l = absurd (omega arith)
cut_last gap (a ∷ ps) (suc i) p e l = cut_last gap ps i p e (omega arith)

pub length-cut : (gap : ℕ) (ps : List (ℤ × ℤ)) (i : ℕ) (p q : ℤ × ℤ) → Some p ≡ slice_get ps i → Some q ≡ slice_get ps (suc i)
    → length (chain gap (drop i ps)) ≡ how_many_on gap (point_of p) (point_of q) + length (chain gap (drop (suc i) ps))
length-cut gap ps i p q e f =
    ap length (cut gap ps i p q e f) ∙ length-append (on_segment gap (point_of p) (point_of q)) (chain gap (drop (suc i) ps))
    ∙ ap (λ n. n + length (chain gap (drop (suc i) ps))) (length-on_segment gap (point_of p) (point_of q))

-- the same of a next place as the code writes it
pub cut_next : (gap : ℕ) (ps : List (ℤ × ℤ)) (i : ℕ) (p q : ℤ × ℤ) → Some p ≡ slice_get ps i → Some q ≡ slice_get ps (i + 1)
    → chain gap (drop i ps) ≡ on_segment gap (point_of p) (point_of q) ++ chain gap (drop (i + 1) ps)
cut_next gap ps i p q e f =
    subst (λ k. chain gap (drop i ps) ≡ on_segment gap (point_of p) (point_of q) ++ chain gap (drop k ps)) (sym (add-one i))
    (cut gap ps i p q e (subst (λ k. Some q ≡ slice_get ps k) (add-one i) f))

pub length-cut_next : (gap : ℕ) (ps : List (ℤ × ℤ)) (i : ℕ) (p q : ℤ × ℤ) → Some p ≡ slice_get ps i → Some q ≡ slice_get ps (i + 1)
    → length (chain gap (drop i ps)) ≡ how_many_on gap (point_of p) (point_of q) + length (chain gap (drop (i + 1) ps))
length-cut_next gap ps i p q e f =
    ap length (cut_next gap ps i p q e f) ∙ length-append (on_segment gap (point_of p) (point_of q)) (chain gap (drop (i + 1) ps))
    ∙ ap (λ n. n + length (chain gap (drop (i + 1) ps))) (length-on_segment gap (point_of p) (point_of q))

-- a dab on a segment, and one on the rest
pub get-cut_front : (gap : ℕ) (ps : List (ℤ × ℤ)) (i k : ℕ) (p q : ℤ × ℤ) → Some p ≡ slice_get ps i → Some q ≡ slice_get ps (i + 1) → k < how_many_on gap (point_of p) (point_of q)
    → slice_get (chain gap (drop i ps)) k ≡ Some (along (point_of p) (point_of q) (k * gap))
get-cut_front gap ps i k p q e f h =
    let long : k < length (on_segment gap (point_of p) (point_of q)) = subst (λ n. k < n) (sym (length-on_segment gap (point_of p) (point_of q))) h in
    ap (λ cs. slice_get cs k) (cut_next gap ps i p q e f)
    ∙ get-front (on_segment gap (point_of p) (point_of q)) (chain gap (drop (i + 1) ps)) k long
    ∙ get-on_segment gap (point_of p) (point_of q) k h

pub get-cut_back : (gap : ℕ) (ps : List (ℤ × ℤ)) (i k m : ℕ) (p q : ℤ × ℤ) → Some p ≡ slice_get ps i → Some q ≡ slice_get ps (i + 1) → m ≡ how_many_on gap (point_of p) (point_of q) → m ≤ k
    → slice_get (chain gap (drop i ps)) k ≡ slice_get (chain gap (drop (i + 1) ps)) (k - m)
get-cut_back gap ps i k m p q e f n h =
    let long : length (on_segment gap (point_of p) (point_of q)) ≡ m = length-on_segment gap (point_of p) (point_of q) ∙ sym n in
    ap (λ cs. slice_get cs k) (cut_next gap ps i p q e f)
    ∙ get-back (on_segment gap (point_of p) (point_of q)) (chain gap (drop (i + 1) ps)) k (k - m) (omega arith)

-- behind the last segment there is one dab
pub length-cut_last : (gap : ℕ) (ps : List (ℤ × ℤ)) (i : ℕ) → suc i ≡ length ps → length (chain gap (drop i ps)) ≡ 1
length-cut_last gap [] i l = absurd (omega arith)
length-cut_last gap (a ∷ []) zero l = refl
length-cut_last gap (a ∷ b ∷ ps) zero l = absurd (omega arith)
length-cut_last gap (a ∷ ps) (suc i) l = length-cut_last gap ps i (omega arith)
