-- Bytes of pixels at their places in a buffer.
use Rattle.std.proofs.Common.{◌≡◌, ℕ, ◌+◌, ◌-◌, ◌*◌, ◌/◌, ◌%◌, ◌≤◌, ◌<◌, ◌⊎◌, inl, inr, Bool, true, false, cond, ◌&&◌, List, length, get_or, refl, sym, ap, ◌∙◌, arith}
use borrow.Rule.Slice.PartMut.{put_mid}
use Rattle.std.specs.Prelude.{nat_lt}
use Rattle.std.proofs.lemmas.Bool.{cases_lt, cases_order, ltb-true, lt-ltb, le-ltb}
use Rattle.std.proofs.lemmas.List.{places}
use Rattle.std.proofs.lemmas.Nat.{mul-add-lt, div-add-mod', mod_below, mul-le}

-- a byte before the part that is written
pub before_part : (a e : ℕ) (old new : List ℕ) (i : ℕ) → i < a → a ≤ length old → get_or (put_mid a e old new) i 0 ≡ get_or old i 0
before_part a e old new i h room = grind (arith, places)

-- a byte of the part
pub in_part : (a e : ℕ) (old new : List ℕ) (i j : ℕ) → i ≡ a + j → j < length new → a ≤ length old → get_or (put_mid a e old new) i 0 ≡ get_or new j 0
in_part a e old new i j h t room = grind (arith, places)

-- a byte behind the part
pub behind_part : (a e : ℕ) (old new : List ℕ) (i : ℕ) → a + e ≤ i → length new ≡ e → a + e ≤ length old → get_or (put_mid a e old new) i 0 ≡ get_or old i 0
behind_part a e old new i h same room = grind (arith, places)

-- n more pixels of s bytes each
pub run_written : (s : ℕ) (f : ℕ → ℕ → ℕ) (old new : List ℕ) (a e d n : ℕ) → a ≡ d * s → e ≡ n * s → length new ≡ e → a + e ≤ length old
    → ((k c : ℕ) → k < d → c < s → get_or old (k * s + c) 0 ≡ f k c)
    → ((k c : ℕ) → k < n → c < s → get_or new (k * s + c) 0 ≡ f (d + k) c)
    → (k c : ℕ) → k < d + n → c < s → get_or (put_mid a e old new) (k * s + c) 0 ≡ f k c
run_written s f old new a e d n is_a is_e many room before here k c h t =
    elim (cases_lt k d) [
      | inl l ↦
          let left : k * s + c < s * d = mul-add-lt k s c d l t in
          before_part a e old new (k * s + c) (omega (arith, left, is_a)) (omega arith) ∙ before k c l t
      | inr r ↦
          let j : ℕ = k - d in
          let at : k ≡ d + (k - d) = omega arith in
          let inside : (k - d) * s + c < s * n = mul-add-lt (k - d) s c n (omega arith) t in
          let place : k * s + c ≡ a + ((k - d) * s + c) = omega (arith, ap (λ v. v * s) at, is_a) in
          in_part a e old new (k * s + c) ((k - d) * s + c) place (omega (arith, inside, is_e, many)) (omega arith)
          ∙ here (k - d) c (omega arith) t ∙ ap (λ v. f v c) (sym at)
    ]

-- one more row of the buffer: what stands at a place of it and elsewhere
pub row_written : (stride len row i x before : ℕ) (old new : List ℕ) (a e : ℕ) → a ≡ row * stride → e ≡ len → length new ≡ len → a + len ≤ length old → len ≤ stride → 0 < stride
    → (i / stride ≡ row → i % stride < len → get_or new (i % stride) 0 ≡ x)
    → get_or old i 0 ≡ cond (nat_lt (i / stride) row && nat_lt (i % stride) len) x before
    → get_or (put_mid a e old new) i 0 ≡ cond (nat_lt (i / stride) (row + 1) && nat_lt (i % stride) len) x before
row_written stride len row i x before old new a e is_a is_e many room fits some here was =
    let place : i / stride * stride + i % stride ≡ i = div-add-mod' i stride in
    let off : i % stride < stride = mod_below i stride some in
    elim (cases_order (i / stride) row) [
      | inl q ↦
          let here_at : i ≡ a + i % stride = omega (arith, ap (λ v. v * stride) q, place, is_a) in
          elim (cases_lt (i % stride) len) [
            | inl l ↦
                in_part a e old new i (i % stride) here_at (omega arith) (omega arith) ∙ here q l
                ∙ ap (λ b. cond b x before) (sym (both (i / stride) (row + 1) (i % stride) len (omega (arith, q)) l))
            | inr r ↦
                behind_part a e old new i (omega (arith, here_at)) (omega arith) (omega arith) ∙ was
                ∙ ap (λ b. cond b x before) (no_second (nat_lt (i / stride) row) (i % stride) len r ∙ sym (no_second (nat_lt (i / stride) (row + 1)) (i % stride) len r))
          ]
      | inr (inl l) ↦
          let left : i < stride * row = omega (arith, place, mul-add-lt (i / stride) stride (i % stride) row l off) in
          before_part a e old new i (omega (arith, left, is_a)) (omega arith) ∙ was
          ∙ ap (λ b. cond (b && nat_lt (i % stride) len) x before) (lt-ltb (i / stride) row l ∙ sym (lt-ltb (i / stride) (row + 1) (omega arith)))
      | inr (inr r) ↦
          let right : (row + 1) * stride ≤ i / stride * stride = mul-le (row + 1) stride (i / stride) stride (omega arith) (omega arith) in
          behind_part a e old new i (omega (arith, right, place, is_a, is_e)) (omega arith) (omega arith) ∙ was
          ∙ ap (λ b. cond (b && nat_lt (i % stride) len) x before) (le-ltb (i / stride) row (omega arith) ∙ sym (le-ltb (i / stride) (row + 1) (omega arith)))
    ]
  where
    both : (q m r n : ℕ) → q < m → r < n → (nat_lt q m && nat_lt r n) ≡ true
    both q m r n h t = ap (λ b. b && nat_lt r n) (lt-ltb q m h) ∙ lt-ltb r n t

    no_second : (b : Bool) (r n : ℕ) → n ≤ r → (b && nat_lt r n) ≡ false
    no_second true r n h = le-ltb r n h
    no_second false r n h = refl
