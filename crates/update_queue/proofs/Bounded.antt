-- A rectangle that lies in another adds nothing to its bounds.
use Rattle.std.proofs.Common.{◌≡◌, ℕ, Bool, true, false, ◌&&◌, cond, List, [], ◌∷◌, ◌++◌, map, refl, ap, ◌∙◌, arith}
use Rattle.std.specs.Prelude.{ℤ, pos, ◌+ℤ◌, ◌-ℤ◌, int_le, nat_abs}
use Rattle.std.specs.Int.{int_min, int_max}
use borrow.Author.Differences.{ints}
use Rattle.geom_core.proofs.Tests.{and_left, and_right, both_true}
use Rattle.geom_core.specs.Areas.{Area, area, lies_in}
use Rattle.geom_core.specs.Overlaps.{bound}
use Rattle.doc_model.specs.declared.canvas.Walk.{Walk}
use Rattle.doc_model.specs.declared.canvas.Patch.{Patch}
use Rattle.doc_model.specs.Updates.{same_walk, one_cell, patch, merged, bound_all}

-- one axis
from_kept : (a c : ℤ) (n k : ℕ) → (int_le a c && int_le (c +ℤ pos k) (a +ℤ pos n)) ≡ true → int_min a c ≡ a
from_kept a c n k h = grind (arith, ints)

span_kept : (a c : ℤ) (n k : ℕ) → (int_le a c && int_le (c +ℤ pos k) (a +ℤ pos n)) ≡ true → nat_abs (int_max (a +ℤ pos n) (c +ℤ pos k) -ℤ int_min a c) ≡ n
span_kept a c n k h = grind (arith, ints)

widened : (a b c : ℤ) (n m k : ℕ) → (int_le a c && int_le (c +ℤ pos k) (a +ℤ pos n)) ≡ true
    → (int_le (int_min a b) c && int_le (c +ℤ pos k) (int_min a b +ℤ pos (nat_abs (int_max (a +ℤ pos n) (b +ℤ pos m) -ℤ int_min a b)))) ≡ true
widened a b c n m k h = grind (arith, ints)

from_taken : (a b c : ℤ) (n k : ℕ) → (int_le a c && int_le (c +ℤ pos k) (a +ℤ pos n)) ≡ true → int_min a (int_min b c) ≡ int_min a b
from_taken a b c n k h = grind (arith, ints)

to_bound : (b c : ℤ) (m k : ℕ) → (int_min b c +ℤ pos (nat_abs (int_max (b +ℤ pos m) (c +ℤ pos k) -ℤ int_min b c))) ≡ int_max (b +ℤ pos m) (c +ℤ pos k)
to_bound b c m k = grind (arith, ints)

to_taken : (a b c : ℤ) → int_le c a ≡ true → int_max a (int_max b c) ≡ int_max a b
to_taken a b c h = grind (arith, ints)

span_taken : (a b c : ℤ) (n m k : ℕ) → (int_le a c && int_le (c +ℤ pos k) (a +ℤ pos n)) ≡ true
    → nat_abs (int_max (a +ℤ pos n) (int_min b c +ℤ pos (nat_abs (int_max (b +ℤ pos m) (c +ℤ pos k) -ℤ int_min b c))) -ℤ int_min a (int_min b c)) ≡ nat_abs (int_max (a +ℤ pos n) (b +ℤ pos m) -ℤ int_min a b)
span_taken a b c n m k h = both
    (ap (λ t. int_max (a +ℤ pos n) t) (to_bound b c m k) ∙ to_taken (a +ℤ pos n) (b +ℤ pos m) (c +ℤ pos k) (and_right (int_le a c) _ h))
    (from_taken a b c n k h)
  where
    both : {t t' f f' : ℤ} → t ≡ t' → f ≡ f' → nat_abs (t -ℤ f) ≡ nat_abs (t' -ℤ f')
    both e g i = nat_abs (e i -ℤ g i)

pub same_area : {x x' y y' : ℤ} {w w' h h' : ℕ} → x ≡ x' → y ≡ y' → w ≡ w' → h ≡ h' → area x y w h ≡ area x' y' w' h'
same_area e f g h i = area (e i) (f i) (g i) (h i)

-- nothing is added by a part
bound_kept : (a c : Area) → lies_in c a ≡ true → bound a c ≡ a
bound_kept a c h =
    let x = and_left (int_le a.x c.x && int_le (c.x +ℤ pos c.w) (a.x +ℤ pos a.w)) _ h in
    let y = and_right (int_le a.x c.x && int_le (c.x +ℤ pos c.w) (a.x +ℤ pos a.w)) _ h in
    same_area (from_kept a.x c.x a.w c.w x) (from_kept a.y c.y a.h c.h y) (span_kept a.x c.x a.w c.w x) (span_kept a.y c.y a.h c.h y)

-- a part still lies in what grows
bound_lies_in : (a b c : Area) → lies_in c a ≡ true → lies_in c (bound a b) ≡ true
bound_lies_in a b c h = both_true _ _ (widened a.x b.x c.x a.w b.w c.w (and_left _ _ h)) (widened a.y b.y c.y a.h b.h c.h (and_right (int_le a.x c.x && int_le (c.x +ℤ pos c.w) (a.x +ℤ pos a.w)) _ h))

-- nor by a part that another rectangle has taken in
bound_taken : (a b c : Area) → lies_in c a ≡ true → bound a (bound b c) ≡ bound a b
bound_taken a b c h =
    let x = and_left (int_le a.x c.x && int_le (c.x +ℤ pos c.w) (a.x +ℤ pos a.w)) _ h in
    let y = and_right (int_le a.x c.x && int_le (c.x +ℤ pos c.w) (a.x +ℤ pos a.w)) _ h in
    same_area (from_taken a.x b.x c.x a.w c.w x) (from_taken a.y b.y c.y a.h c.h y) (span_taken a.x b.x c.x a.w b.w c.w x) (span_taken a.y b.y c.y a.h b.h c.h y)

-- the bounding rectangle of a rectangle and all patches stays where these take in a part of the rectangle
pub bound_all-merged : (rect : Area) (walk : Walk) (part : Area) (ps : List Patch) → lies_in part rect ≡ true → bound_all rect (map (merged walk part) ps) ≡ bound_all rect ps
bound_all-merged rect walk part [] h = refl
bound_all-merged rect walk part (p ∷ ps) h =
    ap (λ a. bound_all a (map (merged walk part) ps)) (one (same_walk p.walk walk && one_cell p.rect part)) ∙ bound_all-merged (bound rect p.rect) walk part ps (bound_lies_in rect p.rect part h)
  where
    one : (b : Bool) → bound rect (cond b (patch p.walk (bound p.rect part)) p).rect ≡ bound rect p.rect
    one true = bound_taken rect p.rect part h
    one false = refl

-- and where a part of it is a patch of its own
pub bound_all-placed : (rect : Area) (walk : Walk) (part : Area) (ps : List Patch) → lies_in part rect ≡ true → bound_all rect (ps ++ patch walk part ∷ []) ≡ bound_all rect ps
bound_all-placed rect walk part [] h = bound_kept rect part h
bound_all-placed rect walk part (p ∷ ps) h = bound_all-placed (bound rect p.rect) walk part ps (bound_lies_in rect p.rect part h)
