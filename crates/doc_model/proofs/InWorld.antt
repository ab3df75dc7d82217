-- When a rectangle lies in the world.
use Rattle.std.proofs.Common.{◌≡◌, ℕ, ◌≤◌, Bool, true, false, ◌&&◌, arith, refl, subst, inl, inr}
use Rattle.std.specs.Prelude.{ℤ, pos, negsuc, ◌+ℤ◌, ◌≤ℤ◌, int_le, Result, Ok, Err, IfOk, OnOk, OnErr}
use borrow.Author.Differences.{ints}
use Rattle.geom_core.specs.Areas.{Area, right, lies_in, moved, world}
use Rattle.geom_core.specs.Rects.{IsInWorld}
use Rattle.geom_core.proofs.Tests.{true_or_false, and_left, and_right, both_true, no_first, no_second}

axis : (b x y e : ℤ) → b ≤ℤ x → y ≤ℤ e → (int_le b x && int_le y e) ≡ true
axis b x y e h k = grind (arith, ints)

low : (b x : ℤ) → int_le b x ≡ true → b ≤ℤ x
low b x h = grind (arith, ints)

pub inside : (a : Area) → IsInWorld a → lies_in a world ≡ true
inside a h = both_true _ _ (axis _ _ _ _ h.left h.right) (axis _ _ _ _ h.top h.bottom)

lying : (a : Area) → lies_in a world ≡ true → IsInWorld a
lying a h =
    let across = and_left _ _ h in
    let down = and_right (int_le world.x a.x && int_le (right a) (right world)) _ h in
    record {
      left = low _ _ (and_left _ _ across);
      right = low _ _ (and_right (int_le world.x a.x) _ across);
      top = low _ _ (and_left _ _ down);
      bottom = low _ _ (and_right (int_le world.y a.y) _ down);
    }

pub outside : (a : Area) → (IsInWorld a → ⊥) → lies_in a world ≡ false
outside a h = elim (true_or_false (lies_in a world)) [ inl e ↦ absurd (h (lying a e)) | inr e ↦ e ]

-- the same of a result, where the rectangle is told otherwise
pub same_value : {E : Type 0} (r : Result Area E) (a b : Area) → a ≡ b → IfOk r (λ c. c ≡ a) → IfOk r (λ c. c ≡ b)
same_value r a b e h = subst (λ c. IfOk r (λ d. d ≡ c)) e h

pub ok_inside : {E : Type 0} (r : Result Area E) (a b : Area) → a ≡ b → OnOk r (IsInWorld a) → OnOk r (lies_in b world ≡ true)
ok_inside (Ok c) a b e h = subst (λ c. lies_in c world ≡ true) e (inside a h)
ok_inside (Err f) a b e h = h

pub err_outside : {E : Type 0} (r : Result Area E) (a b : Area) → a ≡ b → OnErr r (IsInWorld a → ⊥) → OnErr r (lies_in b world ≡ false)
err_outside (Ok c) a b e h = h
err_outside (Err f) a b e h = subst (λ c. lies_in c world ≡ false) e (outside a h)

-- a rectangle of the world that is moved too far leaves it
far_axis : (x d : ℤ) (n : ℕ) → (int_le world.x x && int_le (x +ℤ pos n) (pos 16384)) ≡ true → 1 ≤ n → (int_le (negsuc 32766) d && int_le d (pos 32767)) ≡ false
    → (int_le world.x (x +ℤ d) && int_le ((x +ℤ d) +ℤ pos n) (pos 16384)) ≡ false
far_axis x d n h some far = grind (arith, ints)

pub far_across : (a : Area) (d e : ℤ) → lies_in a world ≡ true → 1 ≤ a.w → (int_le (negsuc 32766) d && int_le d (pos 32767)) ≡ false → lies_in (moved a d e) world ≡ false
far_across a d e h some far = no_first _ _ (far_axis a.x d a.w (and_left _ _ h) some far)

pub far_down : (a : Area) (d e : ℤ) → lies_in a world ≡ true → 1 ≤ a.h → (int_le (negsuc 32766) e && int_le e (pos 32767)) ≡ false → lies_in (moved a d e) world ≡ false
far_down a d e h some far = no_second (int_le world.x (moved a d e).x && int_le (right (moved a d e)) (right world)) _ (far_axis a.y e a.h (and_right (int_le world.x a.x && int_le (right a) (right world)) _ h) some far)
