-- A track whose points stay in the world has all its dabs there.
use Rattle.std.proofs.Common.{◌≡◌, ℕ, suc, zero, ◌+◌, ◌*◌, ◌/◌, ◌%◌, ◌≤◌, ◌<◌, Bool, true, false, ◌&&◌, List, [], ◌∷◌, ◌++◌, map, drop, Some, arith, refl, sym, ap, ◌∙◌, inl, inr}
use Rattle.std.specs.Prelude.{ℤ, pos, ◌+ℤ◌, ◌-ℤ◌, ◌*ℤ◌, ◌≤ℤ◌, int_le, slice_get}
use Rattle.std.specs.Int.{div_ceil}
use Rattle.std.specs.List.{list_all, range_with_len}
use borrow.Author.Differences.{ints}
use Rattle.geom_core.specs.Areas.{Point, point, lies_in, world, right}
use Rattle.geom_core.specs.Grid.{floor_by}
use Rattle.geom_core.proofs.Tests.{true_or_false, and_left, and_right, both_true}
use Rattle.doc_model.specs.Trails.{Trail, distance, along, how_many_on, on_segment, centres_along}
use Rattle.doc_model.specs.Tracks.{point_of}
use Rattle.doc_model.specs.Jobs.{square, squares}
use Rattle.doc_model.proofs.Shares.{low, high, multiple_below}

-- whether the dab round a point lies in the world
abbrev pub stays : ℕ → Point → Bool
stays r c = lies_in (square c.x c.y r) world

-- whether those round each of these do
abbrev pub all_stay : ℕ → List Point → Bool
all_stay r cs = list_all (λ a. lies_in a world) (map (λ (c : Point). square c.x c.y r) cs)

le_of : (b x : ℤ) → int_le b x ≡ true → b ≤ℤ x
le_of b x h = grind (arith, ints)

test_of : (b x : ℤ) → b ≤ℤ x → int_le b x ≡ true
test_of b x h = grind (arith, ints)

-- on one axis
abbrev fits : ℕ → ℤ → Bool
fits r x = int_le world.x (x -ℤ pos r) && int_le ((x -ℤ pos r) +ℤ pos (2 * r + 1)) (right world)

fits_both : (p q f : ℤ) (r : ℕ) → fits r p ≡ true → fits r q ≡ true
    → ((b : ℤ) → b ≤ℤ pos 0 → b ≤ℤ (q -ℤ p) → b ≤ℤ f) → ((b : ℤ) → pos 0 ≤ℤ b → (q -ℤ p) ≤ℤ b → f ≤ℤ b) → fits r (p +ℤ f) ≡ true
fits_both p q f r h k l u =
    let a : world.x ≤ℤ (p -ℤ pos r) = le_of _ _ (and_left _ _ h) in
    let b : ((p -ℤ pos r) +ℤ pos (2 * r + 1)) ≤ℤ right world = le_of _ _ (and_right (int_le world.x (p -ℤ pos r)) _ h) in
    let c : world.x ≤ℤ (q -ℤ pos r) = le_of _ _ (and_left _ _ k) in
    let d : ((q -ℤ pos r) +ℤ pos (2 * r + 1)) ≤ℤ right world = le_of _ _ (and_right (int_le world.x (q -ℤ pos r)) _ k) in
    let low_end : ((world.x +ℤ pos r) -ℤ p) ≤ℤ f = l ((world.x +ℤ pos r) -ℤ p) (omega (arith, ints)) (omega (arith, ints)) in
    let high_end : f ≤ℤ ((right world -ℤ pos (r + 1)) -ℤ p) = u ((right world -ℤ pos (r + 1)) -ℤ p) (omega (arith, ints)) (omega (arith, ints)) in
    both_true _ _ (test_of world.x ((p +ℤ f) -ℤ pos r) (omega (arith, ints))) (test_of (((p +ℤ f) -ℤ pos r) +ℤ pos (2 * r + 1)) (right world) (omega (arith, ints)))

stays_between : (r : ℕ) (p q : Point) (n : ℕ) → 1 ≤ distance p q → n ≤ distance p q → stays r p ≡ true → stays r q ≡ true → stays r (along p q n) ≡ true
stays_between r p q n o h a b = both_true _ _
    (fits_both p.x q.x (floor_by (distance p q) ((q.x -ℤ p.x) *ℤ pos n)) r (and_left _ _ a) (and_left _ _ b) (λ z. low z (q.x -ℤ p.x) n (distance p q) o h) (λ z. high z (q.x -ℤ p.x) n (distance p q) o h))
    (fits_both p.y q.y (floor_by (distance p q) ((q.y -ℤ p.y) *ℤ pos n)) r (and_right (fits r p.x) _ a) (and_right (fits r q.x) _ b) (λ z. low z (q.y -ℤ p.y) n (distance p q) o h) (λ z. high z (q.y -ℤ p.y) n (distance p q) o h))

all_of_range : (r : ℕ) (f : ℕ → Point) (a n : ℕ) → ((k : ℕ) → k < a + n → stays r (f k) ≡ true) → all_stay r (map f (range_with_len a n)) ≡ true
all_of_range r f a zero each = refl
all_of_range r f a (suc n) each = both_true _ _ (each a (omega arith)) (all_of_range r f (a + 1) n (λ k h. each k (omega arith)))

start : (p q : Point) (gap : ℕ) → along p q (0 * gap) ≡ p
start p q gap = λ i. point (there p.x q.x i) (there p.y q.y i)
  where
    there : (x y : ℤ) → x +ℤ floor_by (distance p q) ((y -ℤ x) *ℤ pos (0 * gap)) ≡ x
    there x y = ap (λ n. x +ℤ floor_by (distance p q) ((y -ℤ x) *ℤ pos n)) (omega arith) ∙ ap (λ z. x +ℤ floor_by (distance p q) z) (Rattle.std.proofs.Math.IntN.*ℤ-zero (y -ℤ x)) ∙ ap (λ n. x +ℤ pos n) (Rattle.std.proofs.Math.Nat.zero-div (distance p q)) ∙ omega (arith, ints)

same_place : (p q : Point) → distance p q ≡ 0 → p ≡ q
same_place p q h =
    let x : p.x ≡ q.x = omega (arith, ints) in
    let y : p.y ≡ q.y = omega (arith, ints) in
    λ i. point (x i) (y i)

-- the dabs of a segment whose end stays do so where its start does
segment_stays : (r gap : ℕ) (p q : Point) → 1 ≤ gap → stays r q ≡ true → all_stay r (on_segment gap p q) ≡ stays r p
unfolding on_segment
segment_stays r gap p q o b = go (distance p q) refl
  where
    each : (n : ℕ) → distance p q ≡ n → 1 ≤ n → stays r p ≡ true → (k : ℕ) → k < 0 + how_many_on gap p q → stays r (along p q (k * gap)) ≡ true
    each n e s a k h = let m : k * gap < distance p q = multiple_below (distance p q) gap k o (omega arith) in stays_between r p q (k * gap) (omega arith) (omega arith) a b

    one_at_start : (m : ℕ) → stays r p ≡ false → 1 ≤ m → all_stay r (map (λ k. along p q (k * gap)) (range_with_len 0 m)) ≡ false
    one_at_start zero a h = absurd (omega arith)
    one_at_start (suc m) a h = ap (λ c. stays r c && all_stay r (map (λ k. along p q (k * gap)) (range_with_len (0 + 1) m))) (start p q gap) ∙ ap (λ t. t && all_stay r (map (λ k. along p q (k * gap)) (range_with_len (0 + 1) m))) a

    some : (n : ℕ) → distance p q ≡ suc n → 1 ≤ how_many_on gap p q
    some n e = up (distance p q / gap) refl
      where
        up : (m : ℕ) → distance p q / gap ≡ m → 1 ≤ how_many_on gap p q
        up (suc m) f = omega arith
        up zero f = let whole : distance p q / gap * gap + distance p q % gap ≡ distance p q = Rattle.std.proofs.lemmas.Nat.div-add-mod' (distance p q) gap in
            let none : distance p q / gap * gap ≡ 0 = ap (λ k. k * gap) f ∙ omega arith in omega arith

    go : (n : ℕ) → distance p q ≡ n → all_stay r (map (λ k. along p q (k * gap)) (range_with_len 0 (how_many_on gap p q))) ≡ stays r p
    go zero e = ap (λ n. all_stay r (map (λ k. along p q (k * gap)) (range_with_len 0 n))) (none e) ∙ sym (ap (stays r) (same_place p q e) ∙ b)
      where
        none : distance p q ≡ 0 → how_many_on gap p q ≡ 0
        none e = ap (λ d. div_ceil d gap) e ∙ (let z : 0 / gap ≡ 0 = Rattle.std.proofs.Math.Nat.zero-div gap in let w : 0 / gap * gap + 0 % gap ≡ 0 = Rattle.std.proofs.lemmas.Nat.div-add-mod' 0 gap in omega arith)
    go (suc n) e = elim (true_or_false (stays r p)) [
      | inl a ↦ all_of_range r (λ k. along p q (k * gap)) 0 (how_many_on gap p q) (each (suc n) e (omega arith) a) ∙ sym a
      | inr a ↦ one_at_start (how_many_on gap p q) a (some n e) ∙ sym a
    ]

all_append : (r : ℕ) (xs ys : List Point) → all_stay r (xs ++ ys) ≡ (all_stay r xs && all_stay r ys)
all_append r [] ys = refl
all_append r (x ∷ xs) ys = ap (λ b. stays r x && b) (all_append r xs ys) ∙ assoc (stays r x) (all_stay r xs) (all_stay r ys)
  where
    assoc : (a b c : Bool) → (a && (b && c)) ≡ ((a && b) && c)
    assoc true b c = refl
    assoc false b c = refl

-- where the points stay all dabs do, and elsewhere one doesn't
pub points_decide : (r gap : ℕ) (ps : List Point) → 1 ≤ gap → all_stay r (centres_along gap ps) ≡ all_stay r ps
points_decide r gap [] o = refl
points_decide r gap (p ∷ []) o = refl
points_decide r gap (p ∷ q ∷ rest) o =
    all_append r (on_segment gap p q) (centres_along gap (q ∷ rest))
    ∙ ap (λ b. all_stay r (on_segment gap p q) && b) (points_decide r gap (q ∷ rest) o)
    ∙ go (stays r q) refl
  where
    go : (b : Bool) → stays r q ≡ b → (all_stay r (on_segment gap p q) && (stays r q && all_stay r rest)) ≡ (stays r p && (stays r q && all_stay r rest))
    go true e = ap (λ t. t && (stays r q && all_stay r rest)) (segment_stays r gap p q o e)
    go false e = ap (λ t. all_stay r (on_segment gap p q) && (t && all_stay r rest)) e ∙ both_none (all_stay r (on_segment gap p q)) (stays r p) ∙ sym (ap (λ t. stays r p && (t && all_stay r rest)) e)
      where
        both_none : (a b : Bool) → (a && false) ≡ (b && false)
        both_none true true = refl
        both_none true false = refl
        both_none false true = refl
        both_none false false = refl

-- the dabs of a track
pub track_decides : (t : Trail) → 1 ≤ t.gap → all_stay t.stamp.r t.points ≡ list_all (λ a. lies_in a world) (squares t)
track_decides t o = sym (points_decide t.stamp.r t.gap t.points o)

-- the points from a place on
pub cut_stays : (r : ℕ) (ps : List (ℤ × ℤ)) (i : ℕ) (p : ℤ × ℤ) → slice_get ps i ≡ Some p → all_stay r (map point_of (drop i ps)) ≡ (stays r (point_of p) && all_stay r (map point_of (drop (i + 1) ps)))
cut_stays r [] i p e = cc
cut_stays r (a ∷ ps) zero p e = let x : a ≡ p = cc in ap (λ t. stays r (point_of t) && all_stay r (map point_of ps)) x
cut_stays r (a ∷ ps) (suc i) p e = let next : suc (i + 1) ≡ suc i + 1 = omega arith in cut_stays r ps i p e ∙ ap (λ k. stays r (point_of p) && all_stay r (map point_of (drop k (a ∷ ps)))) next
