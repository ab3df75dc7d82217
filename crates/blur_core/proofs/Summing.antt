-- Sums of terms that follow one another.
use Rattle.std.proofs.Common.{◌≡◌, ℕ, zero, suc, ◌+◌, ◌*◌, ◌≤◌, ◌<◌, refl, sym, ap, ◌∙◌, arith}
use Rattle.pixel_core.specs.Rgba.{Rgba}
use Rattle.pixel_core.specs.Canonical.{IsCanonical}
use Rattle.blur_core.specs.declared.sums.Sums.{Sums}
use Rattle.blur_core.specs.Sums.{sums, nothing, weigh, plus, less, IsPartOf, IsUpTo, sum_from}

pub same_sums : (s t : Sums) → s.alpha ≡ t.alpha → s.red ≡ t.red → s.green ≡ t.green → s.blue ≡ t.blue → s ≡ t
same_sums s t p q u v i = sums (p i) (q i) (u i) (v i)

pub plus_assoc : (s t u : Sums) → plus (plus s t) u ≡ plus s (plus t u)
plus_assoc s t u = same_sums _ _ (omega arith) (omega arith) (omega arith) (omega arith)

pub plus-nothing : (s : Sums) → plus s nothing ≡ s
plus-nothing s = same_sums _ _ (omega arith) (omega arith) (omega arith) (omega arith)

pub nothing-plus : (s : Sums) → plus nothing s ≡ s
nothing-plus s = same_sums _ _ (omega arith) (omega arith) (omega arith) (omega arith)

-- sums that are added to two others
pub plus_crossed : (s t u v : Sums) → plus (plus s t) (plus u v) ≡ plus (plus s u) (plus t v)
plus_crossed s t u v = same_sums _ _ (omega arith) (omega arith) (omega arith) (omega arith)

less_front : (s t : Sums) → less (plus s t) s ≡ t
less_front s t = same_sums _ _ (omega arith) (omega arith) (omega arith) (omega arith)

part_front : (s t : Sums) → IsPartOf s (plus s t)
part_front s t = record { alpha = omega arith; red = omega arith; green = omega arith; blue = omega arith }

pub sum_from-zero : (f : ℕ → Sums) (a : ℕ) → sum_from f a 0 ≡ nothing
unfolding sum_from
sum_from-zero f a = refl

pub sum_from-suc : (f : ℕ → Sums) (a n : ℕ) → sum_from f a (suc n) ≡ plus (sum_from f a n) (f (a + n))
unfolding sum_from
sum_from-suc f a n = refl

pub sum_from_more : (f : ℕ → Sums) (a n j : ℕ) → a + n ≡ j → sum_from f a (n + 1) ≡ plus (sum_from f a n) (f j)
sum_from_more f a n j e =
    let m : n + 1 ≡ suc n = omega arith in
    ap (sum_from f a) m ∙ sum_from-suc f a n ∙ ap (λ i. plus (sum_from f a n) (f i)) e

pub sum_from_front : (f : ℕ → Sums) (a n : ℕ) → sum_from f a (suc n) ≡ plus (f a) (sum_from f (a + 1) n)
sum_from_front f a zero =
    let e : a + 0 ≡ a = omega arith in
    sum_from-suc f a 0 ∙ ap (λ s. plus s (f (a + 0))) (sum_from-zero f a) ∙ nothing-plus (f (a + 0)) ∙ ap f e ∙ sym (ap (plus (f a)) (sum_from-zero f (a + 1)) ∙ plus-nothing (f a))
sum_from_front f a (suc n) =
    let e : a + suc n ≡ (a + 1) + n = omega arith in
    sum_from-suc f a (suc n)
    ∙ ap (λ s. plus s (f (a + suc n))) (sum_from_front f a n)
    ∙ plus_assoc (f a) (sum_from f (a + 1) n) (f (a + suc n))
    ∙ ap (λ i. plus (f a) (plus (sum_from f (a + 1) n) (f i))) e
    ∙ sym (ap (plus (f a)) (sum_from-suc f (a + 1) n))

front_at : (f : ℕ → Sums) (a n : ℕ) → sum_from f a (n + 1) ≡ plus (f a) (sum_from f (a + 1) n)
front_at f a n = let m : n + 1 ≡ suc n = omega arith in ap (sum_from f a) m ∙ sum_from_front f a n

-- without the first term
pub sum_from_rest : (f : ℕ → Sums) (a n : ℕ) → less (sum_from f a (n + 1)) (f a) ≡ sum_from f (a + 1) n
sum_from_rest f a n = ap (λ s. less s (f a)) (front_at f a n) ∙ less_front (f a) (sum_from f (a + 1) n)

pub first_part : (f : ℕ → Sums) (a n : ℕ) → IsPartOf (f a) (sum_from f a (n + 1))
first_part f a n = rw (front_at f a n) (part_front (f a) (sum_from f (a + 1) n))

-- sums of the same terms
pub sum_from-same : (f g : ℕ → Sums) (a b n : ℕ) → ((j : ℕ) → j < n → f (a + j) ≡ g (b + j)) → sum_from f a n ≡ sum_from g b n
sum_from-same f g a b zero same = sum_from-zero f a ∙ sym (sum_from-zero g b)
sum_from-same f g a b (suc n) same =
    sum_from-suc f a n
    ∙ ap (λ s. plus s (f (a + n))) (sum_from-same f g a b n (λ j h. same j (omega arith)))
    ∙ ap (plus (sum_from g b n)) (same n (omega arith))
    ∙ sym (sum_from-suc g b n)

-- sums of sums
sum_from-plus : (f g : ℕ → Sums) (a n : ℕ) → sum_from (λ i. plus (f i) (g i)) a n ≡ plus (sum_from f a n) (sum_from g a n)
sum_from-plus f g a zero = sum_from-zero (λ i. plus (f i) (g i)) a ∙ sym (ap (λ s. plus s (sum_from g a 0)) (sum_from-zero f a) ∙ nothing-plus (sum_from g a 0) ∙ sum_from-zero g a)
sum_from-plus f g a (suc n) =
    sum_from-suc (λ i. plus (f i) (g i)) a n
    ∙ ap (λ s. plus s (plus (f (a + n)) (g (a + n)))) (sum_from-plus f g a n)
    ∙ plus_crossed (sum_from f a n) (sum_from g a n) (f (a + n)) (g (a + n))
    ∙ sym (ap (λ s. plus s (sum_from g a (suc n))) (sum_from-suc f a n) ∙ ap (plus (plus (sum_from f a n) (f (a + n)))) (sum_from-suc g a n))

sum_from-nothing : (a n : ℕ) → sum_from (λ i. nothing) a n ≡ nothing
sum_from-nothing a zero = sum_from-zero (λ i. nothing) a
sum_from-nothing a (suc n) = sum_from-suc (λ i. nothing) a n ∙ plus-nothing (sum_from (λ i. nothing) a n) ∙ sum_from-nothing a n

-- column by column, or row by row
pub sums_exchanged : (f : ℕ → ℕ → Sums) (a m b n : ℕ) → sum_from (λ j. sum_from (λ i. f i j) b n) a m ≡ sum_from (λ i. sum_from (f i) a m) b n
sums_exchanged f a zero b n =
    sum_from-zero (λ j. sum_from (λ i. f i j) b n) a
    ∙ sym (sum_from-same (λ i. sum_from (f i) a 0) (λ i. nothing) b b n (λ i h. sum_from-zero (f (b + i)) a) ∙ sum_from-nothing b n)
sums_exchanged f a (suc m) b n =
    sum_from-suc (λ j. sum_from (λ i. f i j) b n) a m
    ∙ ap (λ s. plus s (sum_from (λ i. f i (a + m)) b n)) (sums_exchanged f a m b n)
    ∙ sym (sum_from-plus (λ i. sum_from (f i) a m) (λ i. f i (a + m)) b n)
    ∙ sym (sum_from-same (λ i. sum_from (f i) a (suc m)) (λ i. plus (sum_from (f i) a m) (f i (a + m))) b b n (λ i h. sum_from-suc (f (b + i)) a m))

-- ---- bounds

pub up_to_more : (n m : ℕ) (s : Sums) → n ≤ m → IsUpTo n s → IsUpTo m s
up_to_more n m s h is = record { alpha = omega (arith, is.alpha); red = is.red; green = is.green; blue = is.blue }

pub nothing_up_to : (n : ℕ) → IsUpTo n nothing
nothing_up_to n = record { alpha = omega arith; red = omega arith; green = omega arith; blue = omega arith }

pub plus_up_to : (n m : ℕ) (s t : Sums) → IsUpTo n s → IsUpTo m t → IsUpTo (n + m) (plus s t)
plus_up_to n m s t p q = record { alpha = omega (arith, p.alpha, q.alpha); red = omega (arith, p.red, q.red); green = omega (arith, p.green, q.green); blue = omega (arith, p.blue, q.blue) }

byte_product : (a c : ℕ) → c < 256 → a * c ≤ 255 * a
byte_product a c h = grind arith

pub weigh_up_to : (p : Rgba) → IsCanonical p → IsUpTo 1 (weigh p)
weigh_up_to p is = record { alpha = omega (arith, is.a); red = byte_product p.a p.r is.r; green = byte_product p.a p.g is.g; blue = byte_product p.a p.b is.b }

pub sum_up_to : (f : ℕ → Sums) (m a n : ℕ) → ((j : ℕ) → j < n → IsUpTo m (f (a + j))) → IsUpTo (n * m) (sum_from f a n)
sum_up_to f m a zero each = rw (sum_from-zero f a) (nothing_up_to (0 * m))
sum_up_to f m a (suc n) each =
    let e : suc n * m ≡ n * m + m = grind arith in
    rw (sum_from-suc f a n, e) (plus_up_to (n * m) m (sum_from f a n) (f (a + n)) (sum_up_to f m a n (λ j h. each j (omega arith))) (each n (omega arith)))
