-- Which dabs of a segment are near a tile.
use Rattle.std.proofs.Common.{◌≡◌, ℕ, suc, ◌+◌, ◌*◌, ◌/◌, ◌≤◌, ◌<◌, max, min, Bool, true, false, ◌&&◌, refl, sym, ap, ◌∙◌, arith, inl, inr, ◌⊎◌}
use Rattle.std.specs.Prelude.{ℤ, pos, negsuc, ◌+ℤ◌, ◌-ℤ◌, ◌*ℤ◌, ◌≤ℤ◌, ◌<ℤ◌, int_lt, nat_abs}
use Rattle.std.specs.Int.{int_max, div_ceil}
use Rattle.std.proofs.Math.Nat.{div-le_self, div-eq_of_lt-le, lt-div-mul-add, mul-le-mul_right}
use borrow.Author.Differences.{ints}
use Rattle.geom_core.specs.Areas.{Point, point, Area, meets}
use Rattle.geom_core.specs.Grid.{floor_by}
use Rattle.doc_model.specs.Trails.{distance, along, how_many_on}
use Rattle.doc_model.specs.Jobs.{square}
use Rattle.doc_model.proofs.Shares.{up, share_positive, share_negative, multiple_below}
use Rattle.job_core.specs.Tracks.{stands, reaches, IsBeside, AreWithin, IsNear}
use Rattle.geom_core.proofs.Tests.{no_first, no_second}

-- along the longer axis each step is one place
whole_forward : (w n : ℕ) → 1 ≤ w → w * n / w ≡ n
whole_forward w n o = div-eq_of_lt-le w (omega arith) (omega arith)

whole_back : (w n : ℕ) → 1 ≤ w → up (w * n) w ≡ n
whole_back w n o = div-eq_of_lt-le w (omega arith) (omega arith)

pub forward : (x d : ℤ) (w n : ℕ) → 1 ≤ w → nat_abs d ≡ w → pos 0 ≤ℤ d → (x +ℤ floor_by w (d *ℤ pos n)) ≡ (x +ℤ pos n)
forward x (negsuc a) w n o e h = absurd (omega (arith, ints))
forward x (pos a) w n o e h = ap (λ z. x +ℤ z) (share_positive a n w ∙ ap (λ m. pos (m * n / w)) e ∙ ap pos (whole_forward w n o))

pub backward : (x d : ℤ) (w n : ℕ) → 1 ≤ w → nat_abs d ≡ w → d <ℤ pos 0 → (x +ℤ floor_by w (d *ℤ pos n)) ≡ (x -ℤ pos n)
backward x (pos a) w n o e h = absurd (omega (arith, ints))
backward x (negsuc a) w n o e h =
    let long : suc a ≡ w = omega (arith, ints) in
    ap (λ z. x +ℤ z) (share_negative a n w o ∙ ap (λ m. pos 0 -ℤ pos (up (m * n) w)) long ∙ ap (λ m. pos 0 -ℤ pos m) (whole_back w n o)) ∙ omega (arith, ints)

-- a place too far before or behind
not_lt : (a b : ℤ) → b ≤ℤ a → int_lt a b ≡ false
not_lt a b h = grind (arith, ints)

pub beside_forward : (x start : ℤ) (r size n : ℕ) → IsBeside ((start -ℤ pos r) -ℤ x) ((((start +ℤ pos size) +ℤ pos r) -ℤ pos 1) -ℤ x) n → reaches (x +ℤ pos n) r start size ≡ false
beside_forward x start r size n (inl h) = no_second (int_lt ((x +ℤ pos n) -ℤ pos r) (start +ℤ pos size)) _ (not_lt start (((x +ℤ pos n) -ℤ pos r) +ℤ pos (2 * r + 1)) (omega (arith, ints)))
beside_forward x start r size n (inr h) = no_first _ (int_lt start (((x +ℤ pos n) -ℤ pos r) +ℤ pos (2 * r + 1))) (not_lt ((x +ℤ pos n) -ℤ pos r) (start +ℤ pos size) (omega (arith, ints)))

pub beside_back : (x start : ℤ) (r size n : ℕ) → IsBeside (x -ℤ (((start +ℤ pos size) +ℤ pos r) -ℤ pos 1)) (x -ℤ (start -ℤ pos r)) n → reaches (x -ℤ pos n) r start size ≡ false
beside_back x start r size n (inl h) = no_first _ (int_lt start (((x -ℤ pos n) -ℤ pos r) +ℤ pos (2 * r + 1))) (not_lt ((x -ℤ pos n) -ℤ pos r) (start +ℤ pos size) (omega (arith, ints)))
beside_back x start r size n (inr h) = no_second (int_lt ((x -ℤ pos n) -ℤ pos r) (start +ℤ pos size)) _ (not_lt start (((x -ℤ pos n) -ℤ pos r) +ℤ pos (2 * r + 1)) (omega (arith, ints)))

-- a dab that doesn't reach a rectangle along one axis misses it
pub misses_across : (c : Point) (r : ℕ) (a : Area) → reaches c.x r a.x a.w ≡ false → meets (square c.x c.y r) a ≡ false
misses_across c r a e = no_first (reaches c.x r a.x a.w) (reaches c.y r a.y a.h) e

pub misses_down : (c : Point) (r : ℕ) (a : Area) → reaches c.y r a.y a.h ≡ false → meets (square c.x c.y r) a ≡ false
misses_down c r a e = no_second (reaches c.x r a.x a.w) (reaches c.y r a.y a.h) e

-- no step lies in a row that ends before the first
pub all_beside : (low high : ℤ) (gap count : ℕ) → high <ℤ pos 0 → AreWithin low high gap count count count
all_beside low high gap count h = record { order = omega arith; inside = omega arith; apart = λ k small away. inr (omega (arith, ints)) }

-- the multiples of a gap by quotients
pub multiples_within : (low high : ℤ) (l u gap count first end : ℕ) → 1 ≤ gap → high ≡ pos u → (pos 0 <ℤ pos l → low ≡ pos l) → end ≡ min (u / gap + 1) count → first ≡ min (div_ceil l gap) end → AreWithin low high gap count first end
multiples_within low high l u gap count first end o hu hl he hf = record { order = omega arith; inside = omega arith; apart = away }
  where
    away : (k : ℕ) → k < count → (k < first) ⊎ (end ≤ k) → IsBeside low high (k * gap)
    away k small (inl h) =
        let below : k * gap < l = multiple_below l gap k o (omega arith) in
        let is : low ≡ pos l = hl (omega (arith, ints)) in
        inl (omega (arith, ints))
    away k small (inr h) =
        let past : u / gap + 1 ≤ k = omega arith in
        let over : u < u / gap * gap + gap = lt-div-mul-add {a = u} {b = gap} o in
        let more : (u / gap + 1) * gap ≤ k * gap = mul-le-mul_right gap past in
        let far : u < k * gap = omega arith in
        inr (omega (arith, ints))

-- the same as the code has them
pub multiples_code : (low high m : ℤ) (u l gap g sat count dc first end : ℕ) → 1 ≤ gap → g ≡ gap → pos 0 ≤ℤ high → u ≡ nat_abs high → u < 2147483648 → m ≡ int_max low (pos 0) → l ≡ nat_abs m
    → sat ≡ min (u / g + 1) 4294967295 → end ≡ min sat count → dc ≡ div_ceil l g → first ≡ min dc end → AreWithin low high gap count first end
multiples_code low high m u l gap g sat count dc first end o eg up0 eu small em el es ee ed ef =
    let hu : high ≡ pos u = grind (arith, ints) in
    let hl : pos 0 <ℤ pos l → low ≡ pos l = λ some. grind (arith, ints) in
    let few : u / g ≤ u = div-le_self u g in
    let he : end ≡ min (u / gap + 1) count = ee ∙ ap (λ n. min n count) (es ∙ omega arith) ∙ ap (λ n. min (u / n + 1) count) eg in
    let hf : first ≡ min (div_ceil l gap) end = ef ∙ ap (λ n. min n end) (ed ∙ ap (div_ceil l) eg) in
    multiples_within low high l u gap count first end o hu hl he hf

-- the dabs of a segment whose longer axis goes across
pub near_across : (p q : Point) (gap r : ℕ) (bounds : Area) (low high : ℤ) (first end : ℕ) (back : Bool) → 1 ≤ gap → nat_abs (q.x -ℤ p.x) ≡ distance p q
    → ((n : ℕ) → n < distance p q → along p q n ≡ point (stands p.x back n) (along p q n).y)
    → ((n : ℕ) → IsBeside low high n → reaches (stands p.x back n) r bounds.x bounds.w ≡ false)
    → AreWithin low high gap (how_many_on gap p q) first end → IsNear p q gap r bounds first end
near_across p q gap r bounds low high first end back o major there miss within = record {
  order = within.order;
  inside = within.inside;
  apart = λ k small away.
      let c : Point = along p q (k * gap) in
      let at : c ≡ point (stands p.x back (k * gap)) c.y = there (k * gap) (multiple_below (distance p q) gap k o small) in
      misses_across c r bounds (ap (λ (z : Point). reaches z.x r bounds.x bounds.w) at ∙ miss (k * gap) (within.apart k small away));
}

-- or down
pub near_down : (p q : Point) (gap r : ℕ) (bounds : Area) (low high : ℤ) (first end : ℕ) (back : Bool) → 1 ≤ gap → nat_abs (q.y -ℤ p.y) ≡ distance p q
    → ((n : ℕ) → n < distance p q → along p q n ≡ point (along p q n).x (stands p.y back n))
    → ((n : ℕ) → IsBeside low high n → reaches (stands p.y back n) r bounds.y bounds.h ≡ false)
    → AreWithin low high gap (how_many_on gap p q) first end → IsNear p q gap r bounds first end
near_down p q gap r bounds low high first end back o major there miss within = record {
  order = within.order;
  inside = within.inside;
  apart = λ k small away.
      let c : Point = along p q (k * gap) in
      let at : c ≡ point c.x (stands p.y back (k * gap)) = there (k * gap) (multiple_below (distance p q) gap k o small) in
      misses_down c r bounds (ap (λ (z : Point). reaches z.y r bounds.y bounds.h) at ∙ miss (k * gap) (within.apart k small away));
}

behind : (a b : ℤ) → int_lt b a ≡ true → (b -ℤ a) <ℤ pos 0
behind a b h = grind (arith, ints)

ahead : (a b : ℤ) → int_lt b a ≡ false → pos 0 ≤ℤ (b -ℤ a)
ahead a b h = grind (arith, ints)

-- along the longer axis a dab stands as many places on as steps were made, if it goes across
pub steps_across : (p q : Point) (back : Bool) → nat_abs (q.x -ℤ p.x) ≡ distance p q → back ≡ int_lt q.x p.x → (n : ℕ) → n < distance p q → along p q n ≡ point (stands p.x back n) (along p q n).y
steps_across p q back major turned n small = go (int_lt q.x p.x) refl
  where
    go : (b : Bool) → int_lt q.x p.x ≡ b → along p q n ≡ point (stands p.x back n) (along p q n).y
    go true e =
        let less : (q.x -ℤ p.x) <ℤ pos 0 = behind p.x q.x e in
        λ i. point ((backward p.x (q.x -ℤ p.x) (distance p q) n (omega arith) major less ∙ ap (λ t. stands p.x t n) (sym (turned ∙ e))) i) (along p q n).y
    go false e =
        let more : pos 0 ≤ℤ (q.x -ℤ p.x) = ahead p.x q.x e in
        λ i. point ((forward p.x (q.x -ℤ p.x) (distance p q) n (omega arith) major more ∙ ap (λ t. stands p.x t n) (sym (turned ∙ e))) i) (along p q n).y

-- or down
pub steps_down : (p q : Point) (back : Bool) → nat_abs (q.y -ℤ p.y) ≡ distance p q → back ≡ int_lt q.y p.y → (n : ℕ) → n < distance p q → along p q n ≡ point (along p q n).x (stands p.y back n)
steps_down p q back major turned n small = go (int_lt q.y p.y) refl
  where
    go : (b : Bool) → int_lt q.y p.y ≡ b → along p q n ≡ point (along p q n).x (stands p.y back n)
    go true e =
        let less : (q.y -ℤ p.y) <ℤ pos 0 = behind p.y q.y e in
        λ i. point (along p q n).x ((backward p.y (q.y -ℤ p.y) (distance p q) n (omega arith) major less ∙ ap (λ t. stands p.y t n) (sym (turned ∙ e))) i)
    go false e =
        let more : pos 0 ≤ℤ (q.y -ℤ p.y) = ahead p.y q.y e in
        λ i. point (along p q n).x ((forward p.y (q.y -ℤ p.y) (distance p q) n (omega arith) major more ∙ ap (λ t. stands p.y t n) (sym (turned ∙ e))) i)

-- where the one axis isn't the longer, the other is
pub other_axis : (a b x d : ℕ) → x ≡ a → d ≡ max a b → (x ≡ d → ⊥) → b ≡ d
other_axis a b x d e f other = omega arith
