-- A division of whole numbers, rounded down, by one division of floats and the bits of a sum.
use Rattle.std.proofs.Common.{◌≡◌, ℕ, ◌+◌, ◌-◌, ◌*◌, ◌/◌, ◌%◌, ◌^◌, ◌≤◌, ◌<◌, Bool, true, false, not, ◌&&◌, T, zero, suc, eqb, arith, refl, sym, ap, subst, ◌∙◌, negsuc, zero-le, lit<}
use lib.Dec.{eqb-suc-zero, eqb→eq}
use lib.Ieee.{Float, nan, inf, fin, Format, binary32, up, down, size, round, div, add, sum, of_bits, to_bits, le, is_nan}
use lib.Ieee.Digits.{size-lt, size-le}
use lib.Ieee.Exact.{HasValue, round_exact}
use lib.Ieee.Back.{round_whole}
use lib.Ieee.Fits.{and_l, and_r}
use lib.Ieee.Positive.{positive, positive_of_value, num, den, own_value, values_of_le, between, value→cross, den_pos}
use lib.Ieee.Order.{round_mono}
use lib.Ieee.Scale.{round_same}
use lib.Ieee.Fits.{down_pos}
use lib.Pow.{pow_pos, pow_mono}
use mathlib.Core.Logic.{inl, inr}
use native.Mathlib.Nat.{zero-mul, div-mul-le_self, mul-one, add-mul, mul_right_comm, eq-or-lt_of_le, le_of_suc-le-suc, le_of_eq, le_trans, le_antisymm, lt_of_not-le, not-le_of_lt, lt_of_lt_of_le, mul-div-mul_right, mul-le-mul_right, mul-lt-mul_of_pos_right, le-div_iff_mul-le, div-lt_iff_lt-mul, div-div-eq-div-mul, mul_comm, mul_assoc, mul_left_comm, mul-pos}

-- ---- quotients and sums of what is above zero
div_is : (f : Format) (x y : Float) → T (positive x) → T (positive y) → div f x y ≡ round f false (num x * den y) (num y * den x)
unfolding div
div_is f nan y p q = absurd p
div_is f (inf s) y p q = absurd p
div_is f (fin true m e) y p q = absurd p
div_is f (fin false m e) nan p q = absurd q
div_is f (fin false m e) (inf t) p q = absurd q
div_is f (fin false m e) (fin true n d) p q = absurd q
div_is f (fin false m e) (fin false zero d) p q = absurd q
div_is f (fin false m e) (fin false (suc n) d) p q = rw (eqb-suc-zero n) refl

add_is : (f : Format) (x y : Float) → T (positive x) → T (positive y) → add f x y ≡ round f false (num x * den y + num y * den x) (den x * den y)
unfolding add sum
add_is f nan y p q = absurd p
add_is f (inf s) y p q = absurd p
add_is f (fin true m e) y p q = absurd p
add_is f (fin false m e) nan p q = absurd q
add_is f (fin false m e) (inf t) p q = absurd q
add_is f (fin false m e) (fin true n d) p q = absurd q
add_is f (fin false m e) (fin false n d) p q = refl

-- ---- what is added
pub shift_is : of_bits binary32 1132462079 ≡ fin false 16777215 (negsuc 15)
unfolding of_bits
shift_is = refl

-- ---- a tie goes to the even one, looked at for each whole number
is_value : Float → ℕ → Bool
is_value nan a = false
is_value (inf s) a = false
is_value (fin s m e) a = not s && eqb (m * up e * 1) (a * down e)

all_below : ℕ → (ℕ → Bool) → Bool
all_below zero p = true
all_below (suc k) p = p k && all_below k p

tie_at : ℕ → Bool
tie_at j = is_value (round binary32 false ((j + 257) * 65536 - 1) 65536) (j + 257)

ties : T (all_below 255 tie_at)
unfolding round all_below tie_at is_value
ties = tt

all_at : (k : ℕ) (p : ℕ → Bool) → T (all_below k p) → (i : ℕ) → i < k → T (p i)
unfolding all_below
all_at zero p t i h = absurd (omega arith)
all_at (suc k) p t i h = elim (eq-or-lt_of_le (le_of_suc-le-suc h)) [
  | inl e ↦ subst (λ (x : ℕ). T (p x)) (sym e) (and_l (p k) (all_below k p) t)
  | inr l ↦ all_at k p (and_r (p k) (all_below k p) t) i l
]

value_of : (x : Float) (a : ℕ) → T (is_value x a) → HasValue x false a 1
unfolding is_value
value_of nan a t = absurd t
value_of (inf s) a t = absurd t
value_of (fin true m e) a t = absurd t
value_of (fin false m e) a t = (refl, eqb→eq (m * up e * 1) (a * down e) t)

pub tie : (j : ℕ) → j < 255 → HasValue (round binary32 false ((j + 257) * 65536 - 1) 65536) false (j + 257) 1
unfolding tie_at
tie j h = value_of (round binary32 false ((j + 257) * 65536 - 1) 65536) (j + 257) (all_at 255 tie_at ties j h)

-- ---- the bits of a value from 256 up to 512
size_is : (n : ℕ) → 2 ^ 157 ≤ n → n < 2 ^ 158 → size n ≡ 158
size_is n a b = le_antisymm (size-le n 158 b) (lt_of_not-le (λ (g : size n ≤ 157). not-le_of_lt (lt_of_lt_of_le (size-lt n) (pow_mono g)) a))

pub bits_of : (y : Float) → T (positive y) → 256 * den y ≤ num y → num y < 512 * den y → to_bits binary32 y / 32768 % 256 ≡ num y / den y % 256
unfolding to_bits
bits_of nan p a b = absurd p
bits_of (inf s) p a b = absurd p
bits_of (fin true m e) p a b = absurd p
bits_of (fin false m e) p a b =
    let N = m * up e in
    let D = down e in
    let n = N * 2 ^ 149 / D in
    let lo : 2 ^ 157 ≤ n = (le-div_iff_mul-le (down_pos e)).1 (le_trans (le_of_eq (omega arith)) (mul-le-mul_right (2 ^ 149) a)) in
    let hi : n < 2 ^ 158 = (div-lt_iff_lt-mul (down_pos e)).1 (lt_of_lt_of_le (mul-lt-mul_of_pos_right b (pow_pos 149)) (le_of_eq (omega arith))) in
    let q : n / 2 ^ 134 ≡ N * 2 ^ 15 / D =
    div-div-eq-div-mul (N * 2 ^ 149) D (2 ^ 134)
    ∙ ap (λ (z : ℕ). z / (D * 2 ^ 134)) (sym (mul_assoc N (2 ^ 15) (2 ^ 134)))
    ∙ mul-div-mul_right (N * 2 ^ 15) D (pow_pos 134) in
    let r : N * 2 ^ 15 / D / 2 ^ 15 ≡ N / D =
    div-div-eq-div-mul (N * 2 ^ 15) D (2 ^ 15) ∙ mul-div-mul_right N D (pow_pos 15) in
    rw (size_is n lo hi) (last (n / 2 ^ 134) (N * 2 ^ 15 / D) (N / D) q r)
  where
    last : (a b c : ℕ) → a ≡ b → b / 2 ^ 15 ≡ c → (134 * 2 ^ 23 + a) / 32768 % 256 ≡ c % 256
    last a b c q r = omega arith

-- ---- bounds of a quotient
-- what lies between two values
abbrev pub Within : Float → ℕ → ℕ → ℕ → ℕ → Type 0
Within x a b c d = T (positive x) × (a * den x ≤ num x * b) × (num x * d ≤ c * den x)

pub within : (x lo hi : Float) (a b c d : ℕ) → 0 < a → 0 < c → HasValue lo false a b → HasValue hi false c d → T (le lo x) → T (le x hi) → Within x a b c d
within x lo hi a b c d A C v w h k =
    let p = positive_of_value lo a b v A in
    let q = positive_of_value hi c d w C in
    let r = between lo x hi p q h k in
    (r, values_of_le lo x a b (num x) (den x) p r v (own_value x r) h, values_of_le x hi (num x) (den x) c d r q (own_value x r) w k)

-- values that are whole numbers
num_at : (x : Float) (n : ℕ) → HasValue x false n 1 → num x ≡ n * den x
num_at x n v = sym (mul-one (num x)) ∙ value→cross x n 1 v

div_at : (x y : Float) (n w : ℕ) → 0 < n → 0 < w → HasValue x false n 1 → HasValue y false w 1 → div binary32 x y ≡ round binary32 false n w
div_at x y n w N W v u =
    let f : num y ≡ w * den y = num_at y w u in
    let e : num x * den y * w ≡ n * (num y * den x) =
    ap (λ (z : ℕ). z * den y * w) (num_at x n v) ∙ moved n (den x) (den y) w ∙ sym (ap (λ (z : ℕ). n * (z * den x)) f) in
    div_is binary32 x y (positive_of_value x n 1 v N) (positive_of_value y w 1 u W)
    ∙ round_same binary32 false (num x * den y) (num y * den x) n w (mul-pos (subst (λ (z : ℕ). 0 < z) (sym f) (mul-pos W (den_pos y))) (den_pos x)) W e
  where
    moved : (n a b w : ℕ) → n * a * b * w ≡ n * (w * b * a)
    moved n a b w = simp (mul_assoc, mul_comm, mul_left_comm)

-- fractions of 2 ^ 16 that floats have
exact16 : (a : ℕ) → a < 2 ^ 24 → HasValue (round binary32 false a 65536) false a 65536
exact16 a h = round_exact binary32 false a 65536 a 133 (lit< tt) h (omega (arith, h)) (omega arith)

exact15 : (a : ℕ) → a < 2 ^ 24 → HasValue (round binary32 false (a * 2) 65536) false (a * 2) 65536
exact15 a h = round_exact binary32 false (a * 2) 65536 a 134 (lit< tt) h (omega (arith, h)) (omega arith)

pub whole_number : (a : ℕ) → a < 2 ^ 24 → HasValue (round binary32 false a 1) false a 1
whole_number a h = round_whole binary32 false a (omega (arith, h))

-- ---- the quotient of n by w, whose whole part is j
quotient_within : (n w j : ℕ) → 0 < n → 0 < w → w ≤ 65025 → j < 256 → j * w ≤ n → n < (j + 1) * w → Within (round binary32 false n w) 1 65536 (j * 65536 + 65535) 65536
quotient_within n w j N W S J lo hi =
    within (round binary32 false n w) (round binary32 false 1 65536) (round binary32 false (j * 65536 + 65535) 65536) 1 65536 (j * 65536 + 65535) 65536
    (omega arith) (omega arith) (exact16 1 (omega arith)) (exact16 (j * 65536 + 65535) (omega arith))
    (round_mono binary32 1 65536 n w (omega arith) W (omega arith))
    (round_mono binary32 n w (j * 65536 + 65535) 65536 W (omega arith) (above (j * w) n w j lo hi S refl))
  where
    above : (p n w j : ℕ) → j * w ≤ n → n < (j + 1) * w → w ≤ 65025 → p ≡ j * w → n * 65536 ≤ (j * 65536 + 65535) * w
    above p n w j lo hi S e =
        let a : (j + 1) * w ≡ j * w + 1 * w = add-mul j 1 w in
        let b : (j * 65536 + 65535) * w ≡ j * 65536 * w + 65535 * w = add-mul (j * 65536) 65535 w in
        let c : j * 65536 * w ≡ j * w * 65536 = mul_right_comm j 65536 w in
        omega arith

above_whole : (n w j : ℕ) → 0 < n → 0 < w → w ≤ 65025 → j < 256 → j * w ≤ n → n < (j + 1) * w → (x : Float) → x ≡ round binary32 false n w → T (positive x) → j * den x ≤ num x
above_whole n w zero N W S h lo hi x e p = le_trans (le_of_eq (zero-mul (den x))) zero-le
above_whole n w (suc i) N W S J lo hi x e p =
    let v = whole_number (suc i) (omega arith) in
    let l : T (le (round binary32 false (suc i) 1) x) = subst (λ (z : Float). T (le (round binary32 false (suc i) 1) z)) (sym e) (round_mono binary32 (suc i) 1 n w (omega arith) W (le_trans lo (le_of_eq (sym (mul-one n))))) in
    le_trans (values_of_le (round binary32 false (suc i) 1) x (suc i) 1 (num x) (den x) (positive_of_value (round binary32 false (suc i) 1) (suc i) 1 v (omega arith)) p v (own_value x p) l) (le_of_eq (mul-one (num x)))

-- ---- the sum with what is added
abbrev pub added : Float
added = fin false 16777215 (negsuc 15)

-- X / D is what the sum is made of
sum_within : (x : Float) (j : ℕ) → j < 256 → Within x 1 65536 (j * 65536 + 65535) 65536 → j * den x ≤ num x → Within (add binary32 x added) (j + 256) 1 ((j + 257) * 65536 - 2) 65536
sum_within x j J w lo =
    subst (λ (z : Float). Within z (j + 256) 1 ((j + 257) * 65536 - 2) 65536) (sym (add_is binary32 x (fin false 16777215 (negsuc 15)) w.0 tt))
    (go j J (num x) (den x) (den_pos x) w.1 w.2 lo)
  where
    above : (j X D : ℕ) → X * 65536 ≤ (j * 65536 + 65535) * D → (X * 65536 + 16777215 * D) * 65536 ≤ (j * 65536 + 16842750) * (D * 65536)
    above j X D h =
        let a : (j * 65536 + 65535) * D ≡ j * 65536 * D + 65535 * D = add-mul (j * 65536) 65535 D in
        let b : (j * 65536 + 16842750) * (D * 65536) ≡ j * 65536 * (D * 65536) + 16842750 * (D * 65536) = add-mul (j * 65536) 16842750 (D * 65536) in
        let c : j * 65536 * (D * 65536) ≡ j * 65536 * D * 65536 = sym (mul_assoc (j * 65536) D 65536) in
        omega arith

    below : (i X D : ℕ) → (i + 1) * D ≤ X → ((i + 257) * 65536 - 1) * (D * 65536) ≤ (X * 65536 + 16777215 * D) * 65536
    below i X D h =
        let a : (i + 1) * D ≡ i * D + 1 * D = add-mul i 1 D in
        let e : (i + 257) * 65536 - 1 ≡ i * 65536 + 16842751 = omega arith in
        let b : (i * 65536 + 16842751) * (D * 65536) ≡ i * 65536 * (D * 65536) + 16842751 * (D * 65536) = add-mul (i * 65536) 16842751 (D * 65536) in
        let c : i * 65536 * (D * 65536) ≡ i * D * 65536 * 65536 = sym (mul_assoc (i * 65536) D 65536) ∙ ap (λ (z : ℕ). z * 65536) (mul_right_comm i 65536 D) in
        le_trans (le_of_eq (ap (λ (z : ℕ). z * (D * 65536)) e)) (omega arith)

    top : (j : ℕ) → j < 256 → HasValue (round binary32 false ((j + 257) * 65536 - 2) 65536) false ((j + 257) * 65536 - 2) 65536
    top j h = subst (λ (z : ℕ). HasValue (round binary32 false z 65536) false z 65536) (omega (arith, h)) (exact15 (j * 32768 + 8421375) (omega (arith, h)))

    go : (j : ℕ) → j < 256 → (X D : ℕ) → 0 < D → 1 * D ≤ X * 65536 → X * 65536 ≤ (j * 65536 + 65535) * D → j * D ≤ X
        → Within (round binary32 false (X * 65536 + 16777215 * D) (D * 65536)) (j + 256) 1 ((j + 257) * 65536 - 2) 65536
    go zero J X D P a b l =
        within (round binary32 false (X * 65536 + 16777215 * D) (D * 65536)) (round binary32 false 256 1) (round binary32 false ((0 + 257) * 65536 - 2) 65536) 256 1 ((0 + 257) * 65536 - 2) 65536
        (omega arith) (omega arith) (whole_number 256 (omega arith)) (top 0 J)
        (round_mono binary32 256 1 (X * 65536 + 16777215 * D) (D * 65536) (omega arith) (omega arith) (omega arith))
        (round_mono binary32 (X * 65536 + 16777215 * D) (D * 65536) ((0 + 257) * 65536 - 2) 65536 (omega arith) (omega arith) (above 0 X D b))
    go (suc i) J X D P a b l =
        within (round binary32 false (X * 65536 + 16777215 * D) (D * 65536)) (round binary32 false ((i + 257) * 65536 - 1) 65536) (round binary32 false ((suc i + 257) * 65536 - 2) 65536) (suc i + 256) 1 ((suc i + 257) * 65536 - 2) 65536
        (omega arith) (omega arith) (subst (λ (z : ℕ). HasValue (round binary32 false ((i + 257) * 65536 - 1) 65536) false z 1) (omega arith) (tie i (omega (arith, J)))) (top (suc i) J)
        (round_mono binary32 ((i + 257) * 65536 - 1) 65536 (X * 65536 + 16777215 * D) (D * 65536) (omega arith) (omega arith) (below i X D (subst (λ (z : ℕ). z * D ≤ X) (omega arith) l)))
        (round_mono binary32 (X * 65536 + 16777215 * D) (D * 65536) ((suc i + 257) * 65536 - 2) 65536 (omega arith) (omega arith) (le_trans (above (suc i) X D b) (le_of_eq (ap (λ (z : ℕ). z * (D * 65536)) (omega arith)))))

-- the bits of the sum
bits_within : (y : Float) (j : ℕ) → j < 256 → Within y (j + 256) 1 ((j + 257) * 65536 - 2) 65536 → to_bits binary32 y / 32768 % 256 ≡ j
bits_within y j J w =
    let D = den y in
    let lo : (j + 256) * D ≤ num y = le_trans w.1 (le_of_eq (mul-one (num y))) in
    let hi : num y < (j + 257) * D = less j (num y) D (den_pos y) w.2 in
    bits_of y w.0 (le_trans (mul-le-mul_right D (omega arith)) lo) (lt_of_lt_of_le hi (mul-le-mul_right D (omega (arith, J))))
    ∙ ap (λ (z : ℕ). z % 256) (quotient_is (num y) D (j + 256) (den_pos y) lo (subst (λ (z : ℕ). num y < z * D) (omega arith) hi)) ∙ omega (arith, J)
  where
    less : (j X D : ℕ) → 0 < D → X * 65536 ≤ ((j + 257) * 65536 - 2) * D → X < (j + 257) * D
    less j X D P h =
        let e : (j + 257) * 65536 - 2 ≡ j * 65536 + 16842750 = omega arith in
        let a : (j * 65536 + 16842750) * D ≡ j * 65536 * D + 16842750 * D = add-mul (j * 65536) 16842750 D in
        let b : j * 65536 * D ≡ j * D * 65536 = mul_right_comm j 65536 D in
        let c : (j + 257) * D ≡ j * D + 257 * D = add-mul j 257 D in
        let h' : X * 65536 ≤ (j * 65536 + 16842750) * D = subst (λ (z : ℕ). X * 65536 ≤ z * D) e h in
        omega arith

    quotient_is : (X D q : ℕ) → 0 < D → q * D ≤ X → X < (q + 1) * D → X / D ≡ q
    quotient_is X D q P a b = le_antisymm (le_of_suc-le-suc (subst (λ (z : ℕ). X / D < z) (omega arith) ((div-lt_iff_lt-mul P).1 b))) ((le-div_iff_mul-le P).1 a)

-- what the bits of the sum tell of the quotient
pub quotient_bits : (x y : Float) (n w : ℕ) → 0 < n → 0 < w → w ≤ 65025 → n < 256 * w → HasValue x false n 1 → HasValue y false w 1
    → T (positive (add binary32 (div binary32 x y) added)) × (to_bits binary32 (add binary32 (div binary32 x y) added) / 32768 % 256 ≡ n / w)
quotient_bits x y n w N W S B v u =
    let j = n / w in
    let J : j < 256 = (div-lt_iff_lt-mul W).1 B in
    let lo : j * w ≤ n = div-mul-le_self n w in
    let hi : n < (j + 1) * w = (div-lt_iff_lt-mul W).0 (omega arith) in
    let a = quotient_within n w j N W S J lo hi in
    let b = sum_within (round binary32 false n w) j J a (above_whole n w j N W S J lo hi (round binary32 false n w) refl a.0) in
    let e = div_at x y n w N W v u in
    subst (λ (z : Float). T (positive (add binary32 z added)) × (to_bits binary32 (add binary32 z added) / 32768 % 256 ≡ j)) (sym e) (b.0, bits_within (add binary32 (round binary32 false n w) added) j J b)

pub number : (x : Float) → T (positive x) → T (not (is_nan x))
unfolding is_nan
number nan p = absurd p
number (inf s) p = absurd p
number (fin s m e) p = tt
