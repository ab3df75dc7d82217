-- Points of a rectangle and their places in row order.
use Rattle.std.proofs.Common.{◌≡◌, ℕ, ◌+◌, ◌*◌, ◌<◌, true, false, ◌&&◌, cond, List, length, get_or, refl, sym, ap, ◌∙◌, arith, ◌⊎◌, inl, inr}
use Rattle.std.proofs.Math.ListN.{set}
use Rattle.std.specs.Prelude.{ℤ, pos, ◌+ℤ◌, ◌-ℤ◌, int_le, int_lt, nat_abs}
use Rattle.std.specs.Ordering.{int_eq}
use borrow.Author.Differences.{ints}
use Rattle.pixel_core.specs.Rgba.{Rgba, clear}
use Rattle.geom_core.specs.Areas.{Area, holds, Point, point}
use Rattle.geom_core.specs.Same.{same_point}
use Rattle.geom_core.specs.Rects.{place_in}
use Rattle.geom_core.proofs.Tests.{and_left, and_right, true_or_false}
use Rattle.std.proofs.lemmas.List.{get_or-set_same, get_or-set_other}
use Rattle.std.proofs.Common.{subst}
use Rattle.tile_core.specs.Blocks.{Piece, piece, IsPiece, SetsAt}
use Rattle.tile_core.proofs.LaidRows.{next_fits}

step_small : (a x : ℤ) (n : ℕ) → (int_le a x && int_lt x (a +ℤ pos n)) ≡ true → nat_abs (x -ℤ a) < n
step_small a x n h = grind (arith, ints)

step_same : (a x y : ℤ) (n : ℕ) → (int_le a x && int_lt x (a +ℤ pos n)) ≡ true → (int_le a y && int_lt y (a +ℤ pos n)) ≡ true → nat_abs (x -ℤ a) ≡ nat_abs (y -ℤ a) → x ≡ y
step_same a x y n h k e = grind (arith, ints)

which : (a b : ℕ) → (a < b) ⊎ ((b < a) ⊎ (a ≡ b))
which a b = grind arith

-- the same place means the same row and the same column
row_same : (w r c s d : ℕ) → c < w → d < w → r * w + c ≡ s * w + d → r ≡ s
row_same w r c s d p q e = elim (which r s) [
  | inl l ↦ absurd (omega (arith, next_fits r s w l))
  | inr m ↦ elim m [ inl l ↦ absurd (omega (arith, next_fits s r w l)) | inr l ↦ l ]
]

col_same : (w r c s d : ℕ) → r ≡ s → r * w + c ≡ s * w + d → c ≡ d
col_same w r c s d f e = let g : r * w ≡ s * w = ap (λ i. i * w) f in omega arith

same_point-parts : (p q : Point) → same_point p q ≡ (int_eq p.x q.x && int_eq p.y q.y)
same_point-parts p q = grind arith

point_same : (p q : Point) → p.x ≡ q.x → p.y ≡ q.y → p ≡ q
point_same p q e f i = point (e i) (f i)

same_point-refl : (p : Point) → same_point p p ≡ true
same_point-refl p = rw (same_point-parts) (grind (arith, ints))

place_same : (a : Area) (p q : Point) → holds a p ≡ true → holds a q ≡ true → place_in a p ≡ place_in a q → p ≡ q
place_same a p q h k e =
    let hx : (int_le a.x p.x && int_lt p.x (a.x +ℤ pos a.w)) ≡ true = and_left _ _ h in
    let hy : (int_le a.y p.y && int_lt p.y (a.y +ℤ pos a.h)) ≡ true = and_right _ _ h in
    let kx : (int_le a.x q.x && int_lt q.x (a.x +ℤ pos a.w)) ≡ true = and_left _ _ k in
    let ky : (int_le a.y q.y && int_lt q.y (a.y +ℤ pos a.h)) ≡ true = and_right _ _ k in
    let r : nat_abs (p.y -ℤ a.y) ≡ nat_abs (q.y -ℤ a.y) = row_same a.w _ _ _ _ (step_small a.x p.x a.w hx) (step_small a.x q.x a.w kx) e in
    point_same p q (step_same a.x p.x q.x a.w hx kx (col_same a.w _ _ _ _ r e)) (step_same a.y p.y q.y a.h hy ky r)

same_point-same : (p q : Point) → same_point p q ≡ true → p ≡ q
same_point-same p q t = let u : (int_eq p.x q.x && int_eq p.y q.y) ≡ true = sym (same_point-parts p q) ∙ t in point_same p q (int_same _ _ (and_left _ _ u)) (int_same _ _ (and_right _ _ u))
  where
    int_same : (x y : ℤ) → int_eq x y ≡ true → x ≡ y
    int_same x y h = grind (arith, ints)

pub sets_at : (a : Area) (ps : List Rgba) (q : Point) (c : Rgba) (p : Point) → holds a q ≡ true → holds a p ≡ true → place_in a q < length ps
    → get_or (set ps (place_in a q) c) (place_in a p) clear ≡ cond (same_point p q) c (get_or ps (place_in a p) clear)
sets_at a ps q c p hq hp small = elim (true_or_false (same_point p q)) [
  | inl t ↦ let e : p ≡ q = same_point-same p q t in rw t (rw e (get_or-set_same ps (place_in a q) c clear small))
  | inr f ↦ rw f (get_or-set_other ps (place_in a q) (place_in a p) c clear (λ e. let u : same_point p q ≡ true = rw (place_same a p q hp hq e) (same_point-refl q) in
      let v : true ≡ false = sym u ∙ f in cc))
]

-- one pixel of a block is set
pub sets_one : (b : Piece) (q : Point) (c : Rgba) (i : ℕ) → IsPiece b → holds b.rect q ≡ true → i ≡ place_in b.rect q → i < b.rect.h * b.rect.w → SetsAt b (piece b.key b.rect (set b.pixels i c)) q c
sets_one b q c i is h e small = record {
  key = refl;
  rect = refl;
  at = λ p hp. rw e (sets_at b.rect b.pixels q c p h hp (rw (← e, is.all) small));
}

pub sets_one_as : (b b' : Piece) (q : Point) (c : Rgba) (i : ℕ) → b ≡ b' → IsPiece b → holds b'.rect q ≡ true → i ≡ place_in b.rect q → i < b.rect.h * b.rect.w → SetsAt b' (piece b.key b.rect (set b.pixels i c)) q c
sets_one_as b b' q c i eb is h e small = subst (λ v. SetsAt v (piece b.key b.rect (set b.pixels i c)) q c) eb (sets_one b q c i is (ap (λ (v : Piece). holds v.rect q) eb ∙ h) e small)
