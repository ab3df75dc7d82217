-- A list whose places all have parts of one rectangle, for all groups, stays as it is where a rectangle inside is added.
use Rattle.std.proofs.Common.{◌≡◌, ℕ, ◌+◌, ◌≤◌, Bool, true, false, ◌&&◌, not, cond, List, [], ◌∷◌, ◌++◌, map, length, refl, sym, ap, ◌∙◌, arith}
use Rattle.std.specs.Prelude.{ℤ, pos, ◌+ℤ◌, ◌-ℤ◌, int_le, int_lt, nat_le}
use Rattle.std.specs.List.{list_all, list_any}
use Rattle.std.proofs.lemmas.Bool.Decides.{nat_tests}
use borrow.Author.Differences.{ints}
use Rattle.geom_core.proofs.Tests.{and_left, and_right, both_true, length_map}
use Rattle.geom_core.proofs.Lying.{lies_trans}
use Rattle.geom_core.specs.Areas.{Area, holds, lies_in, Point, point}
use Rattle.geom_core.specs.Grid.{parts}
use Rattle.doc_model.specs.declared.canvas.Walk.TheVariants.{Up, All}
use Rattle.doc_model.specs.declared.canvas.Patch.{Patch}
use Rattle.doc_model.specs.Updates.{patch, merge_all, new_parts, has_place, bound_all, replaced, added}
use Rattle.doc_model.specs.Queues.{in_place}
use Rattle.doc_model.proofs.Patches.{parts_right, bound_all_lies}
use Rattle.doc_model.proofs.QueueLaws.{in_grid, parts_hold, bound_all_patch, map_patch}
use Rattle.update_queue.specs.Waiting.{IsSpread, largest}
use Rattle.update_queue.proofs.Bounded.{same_area}
use Rattle.update_queue.proofs.Joining.{lies_in-refl}

-- one axis: n numbers from x on inside m numbers from a on
abbrev within : ℤ → ℕ → ℤ → ℕ → Bool
within x n a m = int_le a x && int_le (x +ℤ pos n) (a +ℤ pos m)

first_in : (x a : ℤ) (n m : ℕ) → 1 ≤ n → within x n a m ≡ true → (int_le a x && int_lt x (a +ℤ pos m)) ≡ true
first_in x a n m some h = grind (arith, ints)

last_in : (x a : ℤ) (n m : ℕ) → 1 ≤ n → within x n a m ≡ true → (int_le a ((x +ℤ pos n) -ℤ pos 1) && int_lt ((x +ℤ pos n) -ℤ pos 1) (a +ℤ pos m)) ≡ true
last_in x a n m some h = grind (arith, ints)

some_in : (x a : ℤ) (n m : ℕ) → 1 ≤ n → within x n a m ≡ true → 1 ≤ m
some_in x a n m some h = grind (arith, ints)

ends_in : (x a : ℤ) (n m : ℕ) → (int_le a x && int_lt x (a +ℤ pos m)) ≡ true → (int_le a ((x +ℤ pos n) -ℤ pos 1) && int_lt ((x +ℤ pos n) -ℤ pos 1) (a +ℤ pos m)) ≡ true → within x n a m ≡ true
ends_in x a n m h k = grind (arith, ints)

same_from : (x a : ℤ) (n m : ℕ) → within x n a m ≡ true → within a m x n ≡ true → x ≡ a
same_from x a n m h k = grind (arith, ints)

same_count : (x a : ℤ) (n m : ℕ) → within x n a m ≡ true → within a m x n ≡ true → n ≡ m
same_count x a n m h k = grind (arith, ints)

-- rectangles by their axes
along : (a b : Area) → lies_in a b ≡ true → within a.x a.w b.x b.w ≡ true
along a b h = and_left (within a.x a.w b.x b.w) _ h

down : (a b : Area) → lies_in a b ≡ true → within a.y a.h b.y b.h ≡ true
down a b h = and_right (within a.x a.w b.x b.w) _ h

-- rectangles that lie in one another are one
lies_both : (a b : Area) → lies_in a b ≡ true → lies_in b a ≡ true → a ≡ b
lies_both a b h k = same_area
    (same_from a.x b.x a.w b.w (along a b h) (along b a k))
    (same_from a.y b.y a.h b.h (down a b h) (down b a k))
    (same_count a.x b.x a.w b.w (along a b h) (along b a k))
    (same_count a.y b.y a.h b.h (down a b h) (down b a k))

-- the first and the last point of a rectangle
first : Area → Point
first a = point a.x a.y

last : Area → Point
last a = point ((a.x +ℤ pos a.w) -ℤ pos 1) ((a.y +ℤ pos a.h) -ℤ pos 1)

first_held : (a b : Area) → 1 ≤ a.w → 1 ≤ a.h → lies_in a b ≡ true → holds b (first a) ≡ true
unfolding first
first_held a b w h i = both_true _ _ (first_in a.x b.x a.w b.w w (along a b i)) (first_in a.y b.y a.h b.h h (down a b i))

last_held : (a b : Area) → 1 ≤ a.w → 1 ≤ a.h → lies_in a b ≡ true → holds b (last a) ≡ true
unfolding last
last_held a b w h i = both_true _ _ (last_in a.x b.x a.w b.w w (along a b i)) (last_in a.y b.y a.h b.h h (down a b i))

held_lies : (a b : Area) → holds b (first a) ≡ true → holds b (last a) ≡ true → lies_in a b ≡ true
unfolding first last
held_lies a b h k = both_true _ _
    (ends_in a.x b.x a.w b.w (and_left _ _ h) (and_left _ _ k))
    (ends_in a.y b.y a.h b.h (and_right (int_le b.x a.x && int_lt a.x (b.x +ℤ pos b.w)) _ h) (and_right (int_le b.x ((a.x +ℤ pos a.w) -ℤ pos 1) && int_lt ((a.x +ℤ pos a.w) -ℤ pos 1) (b.x +ℤ pos b.w)) _ k))

all-map : {A B : Type 0} (f : A → B) (t : B → Bool) (xs : List A) → list_all (λ x. t (f x)) xs ≡ true → list_all t (map f xs) ≡ true
all-map f t [] h = refl
all-map f t (x ∷ xs) h = both_true _ _ (and_left _ _ h) (all-map f t xs (and_right _ _ h))

-- the bounding rectangle of a rectangle's parts and of one that lies in it is that rectangle
bound_parts : (r a : Area) → 1 ≤ a.w → 1 ≤ a.h → lies_in a largest ≡ true → lies_in r a ≡ true → bound_all r (map (patch All) (parts a)) ≡ a
bound_parts r a w h i l = lies_both (bound_all r (map (patch All) (parts a))) a inner outer
  where
    inner : lies_in (bound_all r (map (patch All) (parts a))) a ≡ true
    inner = bound_all_lies a r (map (patch All) (parts a)) l (all-map (patch All) (in_place a) (parts a) (parts_right a a All (lies_in-refl a)))

    each : (p : Point) → in_grid p ≡ true → holds a p ≡ true → holds (bound_all r (map (patch All) (parts a))) p ≡ true
    each p g k = bound_all_patch (λ _. true) r (map (patch All) (parts a)) p (map_patch (λ _. true) All (parts a) p refl (parts_hold a p g k))

    outer : lies_in a (bound_all r (map (patch All) (parts a))) ≡ true
    outer = held_lies a _
        (each (first a) (first_held a largest w h i) (first_held a a w h (lies_in-refl a)))
        (each (last a) (last_held a largest w h i) (last_held a a w h (lies_in-refl a)))

any-some : {A : Type 0} (t : A → Bool) (xs : List A) → list_any t xs ≡ true → 1 ≤ length xs
any-some t [] h = cc
any-some t (x ∷ xs) h = omega arith

-- a rectangle of the largest canvas has parts
some_parts : (r : Area) → 1 ≤ r.w → 1 ≤ r.h → lies_in r largest ≡ true → 1 ≤ length (parts r)
some_parts r w h i = any-some _ (parts r) (parts_hold r (first r) (first_held r largest w h i) (first_held r r w h (lies_in-refl r)))

-- patches of all groups take in nothing of another walk
none_up : (group : ℕ) (part : Area) (rects : List Area) → has_place (Up group) part (map (patch All) rects) ≡ false
none_up group part [] = refl
none_up group part (r ∷ rects) = none_up group part rects

all_new : (group : ℕ) (more : List Area) (rects : List Area) → new_parts (Up group) more (map (patch All) rects) ≡ more
all_new group [] rects = refl
all_new group (part ∷ more) rects = ap (λ b. cond (not b) (part ∷ new_parts (Up group) more (map (patch All) rects)) (new_parts (Up group) more (map (patch All) rects))) (none_up group part rects) ∙ ap (λ xs. part ∷ xs) (all_new group more rects)

-- so the list begins anew, as the one that it is
pub spread_refreshed : (r a : Area) (ps : List Patch) → IsSpread a ps → 1 ≤ r.w → 1 ≤ r.h → lies_in r a ≡ true → replaced ps r ≡ ps
spread_refreshed r a ps s w h l =
    ap (λ b. map (patch All) (parts b)) (ap (bound_all r) s.each ∙ bound_parts r a (some_in r.x a.x r.w a.w w (along r a l)) (some_in r.y a.y r.h a.h h (down r a l)) s.inside l) ∙ sym s.each

pub spread_added : (group : ℕ) (r a : Area) (ps : List Patch) → IsSpread a ps → 1 ≤ r.w → 1 ≤ r.h → lies_in r a ≡ true → added ps (Up group) r ≡ ps
spread_added group r a ps s w h l =
    ap (λ b. cond b (merge_all (Up group) (parts r) ps ++ map (patch (Up group)) (new_parts (Up group) (parts r) ps)) (replaced ps r)) (over (length ps + length (map (patch (Up group)) (new_parts (Up group) (parts r) ps))) more) ∙ spread_refreshed r a ps s w h l
  where
    over : (n : ℕ) → 65 ≤ n → nat_le n 64 ≡ false
    over n h = grind (arith, nat_tests)

    more : 65 ≤ length ps + length (map (patch (Up group)) (new_parts (Up group) (parts r) ps))
    more =
        let some : 1 ≤ length (parts r) = some_parts r w h (lies_trans r a largest l s.inside) in
        let same : length (map (patch (Up group)) (new_parts (Up group) (parts r) ps)) ≡ length (parts r) = length_map (patch (Up group)) (new_parts (Up group) (parts r) ps) ∙ ap length (ap (new_parts (Up group) (parts r)) s.each ∙ all_new group (parts r) (parts a)) in
        let full : length ps ≡ 64 = s.full in
        omega arith
