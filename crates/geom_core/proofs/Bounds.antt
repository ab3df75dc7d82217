-- The bounding rectangle of two is the least round both.
use Rattle.std.proofs.Common.{◌≡◌, ℕ, ◌≤◌, true, ◌&&◌, arith}
use Rattle.std.specs.Prelude.{ℤ, pos, ◌+ℤ◌, ◌-ℤ◌, int_le, int_lt, nat_abs}
use Rattle.std.specs.Int.{int_max, int_min}
use borrow.Author.Differences.{ints}
use Rattle.geom_core.specs.Areas.{Area, holds, right, bottom, lies_in, point}
use Rattle.geom_core.specs.Overlaps.{bound}
use Rattle.geom_core.specs.Laws.{AllIn, BoundIsLeast}
use Rattle.geom_core.proofs.Tests.{and_left, and_right, both_true}
use Rattle.geom_core.proofs.Lying.{bound_lies}

-- one axis
held_within : (a b x : ℤ) (n m : ℕ) → (int_le b a && int_le (a +ℤ pos n) (b +ℤ pos m)) ≡ true → (int_le a x && int_lt x (a +ℤ pos n)) ≡ true → (int_le b x && int_lt x (b +ℤ pos m)) ≡ true
held_within a b x n m h k = grind (arith, ints)

-- a rectangle holds the points of those that lie in it
pub lies_held : (a b : Area) → lies_in a b ≡ true → AllIn a b
lies_held a b h p k = both_true _ _ (held_within a.x b.x p.x a.w b.w (and_left _ _ h) (and_left _ _ k)) (held_within a.y b.y p.y a.h b.h (and_right _ _ h) (and_right _ _ k))

first_held : (a : ℤ) (n : ℕ) → 1 ≤ n → (int_le a a && int_lt a (a +ℤ pos n)) ≡ true
first_held a n h = grind (arith, ints)

last_held : (a : ℤ) (n : ℕ) → 1 ≤ n → (int_le a ((a +ℤ pos n) -ℤ pos 1) && int_lt ((a +ℤ pos n) -ℤ pos 1) (a +ℤ pos n)) ≡ true
last_held a n h = grind (arith, ints)

ends_within : (a b : ℤ) (n m : ℕ) → (int_le b a && int_lt a (b +ℤ pos m)) ≡ true → (int_le b ((a +ℤ pos n) -ℤ pos 1) && int_lt ((a +ℤ pos n) -ℤ pos 1) (b +ℤ pos m)) ≡ true
    → (int_le b a && int_le (a +ℤ pos n) (b +ℤ pos m)) ≡ true
ends_within a b n m h k = grind (arith, ints)

-- and lies in each that holds its corners
lies_all : (a b : Area) → 1 ≤ a.w → 1 ≤ a.h → AllIn a b → lies_in a b ≡ true
lies_all a b w h all =
    let p : holds b (point a.x a.y) ≡ true = all (point a.x a.y) (both_true _ _ (first_held a.x a.w w) (first_held a.y a.h h)) in
    let q : holds b (point (right a -ℤ pos 1) (bottom a -ℤ pos 1)) ≡ true = all (point (right a -ℤ pos 1) (bottom a -ℤ pos 1)) (both_true _ _ (last_held a.x a.w w) (last_held a.y a.h h)) in
    both_true _ _ (ends_within a.x b.x a.w b.w (and_left _ _ p) (and_left _ _ q)) (ends_within a.y b.y a.h b.h (and_right _ _ p) (and_right _ _ q))

first_in : (a b : ℤ) (n m : ℕ) → (int_le (int_min a b) a && int_le (a +ℤ pos n) (int_min a b +ℤ pos (nat_abs (int_max (a +ℤ pos n) (b +ℤ pos m) -ℤ int_min a b)))) ≡ true
first_in a b n m = grind (arith, ints)

second_in : (a b : ℤ) (n m : ℕ) → (int_le (int_min a b) b && int_le (b +ℤ pos m) (int_min a b +ℤ pos (nat_abs (int_max (a +ℤ pos n) (b +ℤ pos m) -ℤ int_min a b)))) ≡ true
second_in a b n m = grind (arith, ints)

-- the bound of two holds the points of each
pub bound_first : (a b : Area) → AllIn a (bound a b)
bound_first a b = lies_held a (bound a b) (both_true _ _ (first_in a.x b.x a.w b.w) (first_in a.y b.y a.h b.h))

pub bound_second : (a b : Area) → AllIn b (bound a b)
bound_second a b = lies_held b (bound a b) (both_true _ _ (second_in a.x b.x a.w b.w) (second_in a.y b.y a.h b.h))

pub least_bound : BoundIsLeast
least_bound a b wa ha wb hb = record {
  first = bound_first a b;
  second = bound_second a b;
  least = λ d f g. lies_held (bound a b) d (bound_lies a b d (lies_all a d wa ha f) (lies_all b d wb hb g));
}
