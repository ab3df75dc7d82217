-- What a blur leaves.
use Rattle.std.proofs.Common.{◌≡◌, ℕ, ◌+◌, ◌*◌, true, ◌&&◌, List, [], ◌∷◌, map, get_or, refl, sym, ap, ◌∙◌, arith}
use Rattle.std.specs.Prelude.{ℤ, pos, ◌+ℤ◌, ◌-ℤ◌, ◌≤ℤ◌, int_le, int_lt, Result, Ok, Err, IfOk}
use Rattle.std.specs.List.{list_any}
use borrow.Author.Differences.{ints}
use Rattle.std.proofs.lemmas.Bool.Decides.{nat_tests}
use Rattle.pixel_core.specs.Rgba.{Rgba, clear}
use Rattle.geom_core.specs.Areas.{Area, holds, right, bottom, lies_in, points_of, world, Point}
use Rattle.geom_core.specs.Same.{same_point}
use Rattle.geom_core.specs.Rects.{place_in, IsWithin, IsShared}
use Rattle.geom_core.specs.Grid.{Key, tile}
use Rattle.geom_core.proofs.Members.{any-points_of}
use Rattle.geom_core.proofs.Tests.{and_left, and_right, both_true, or_left, or_right}
use Rattle.tile_core.specs.Blocks.{Piece, piece_at}
use Rattle.tile_core.specs.Shots.{Sight, sight_at}
use Rattle.doc_model.specs.declared.job.Job.TheVariants.{Blur}
use Rattle.doc_model.specs.Jobs.{grown, square, mean}
use Rattle.doc_model.specs.Layers.{at}
use Rattle.blur_core.specs.Blur.{blurred}
use Rattle.job_core.specs.Paints.{paint, layer_of, IsPainted}
use Rattle.job_core.specs.Due.{IsDue}
use Rattle.job_core.proofs.Values.{seen_at, painted_once}
use Rattle.job_core.proofs.Keys.{due_key}

-- the points near one of a rectangle lie in the grown rectangle
near_axis : (a p q : ℤ) (n r : ℕ) → (int_le a p && int_lt p (a +ℤ pos n)) ≡ true → (int_le (p -ℤ pos r) q && int_lt q ((p -ℤ pos r) +ℤ pos (2 * r + 1))) ≡ true
    → (int_le (a -ℤ pos r) q && int_lt q ((a -ℤ pos r) +ℤ pos (n + 2 * r))) ≡ true
near_axis a p q n r h k = grind (arith, ints)

near : (a : Area) (r : ℕ) (p q : Point) → holds a p ≡ true → holds (square p.x p.y r) q ≡ true → holds (grown a r) q ≡ true
near a r p q h k = both_true _ _
    (near_axis a.x p.x q.x a.w r (and_left _ _ h) (and_left (int_le (p.x -ℤ pos r) q.x && int_lt q.x ((p.x -ℤ pos r) +ℤ pos (2 * r + 1))) _ k))
    (near_axis a.y p.y q.y a.h r (and_right _ _ h) (and_right (int_le (p.x -ℤ pos r) q.x && int_lt q.x ((p.x -ℤ pos r) +ℤ pos (2 * r + 1))) _ k))

itself : (p : Point) → same_point p p ≡ true
itself p = grind (arith, nat_tests, ints)

-- pixels at the same points
same_pixels : (f g : Point → Rgba) (ps : List Point) → ((q : Point) → list_any (same_point q) ps ≡ true → f q ≡ g q) → map f ps ≡ map g ps
same_pixels f g [] same = refl
same_pixels f g (p ∷ ps) same = cons (same p (or_left _ _ (itself p))) (same_pixels f g ps (λ q h. same q (or_right _ _ h)))
  where
    cons : {x y : Rgba} {xs ys : List Rgba} → x ≡ y → xs ≡ ys → (x ∷ xs) ≡ (y ∷ ys)
    cons e h i = e i ∷ h i

grown_axis : (b e x y : ℤ) (n m r : ℕ) → y ≤ℤ x → (x +ℤ pos n) ≤ℤ (y +ℤ pos m) → (int_le b (y -ℤ pos r) && int_le ((y -ℤ pos r) +ℤ pos (m + 2 * r)) e) ≡ true → (int_le b (x -ℤ pos r) && int_le ((x -ℤ pos r) +ℤ pos (n + 2 * r)) e) ≡ true
grown_axis b e x y n m r p q h = grind (arith, ints)

module _ (rect : Area) (r : ℕ) (s : Sight) (key : Key) where
  around : IsDue (Blur rect r) s key → lies_in (grown rect r) world ≡ true
  around due = and_left _ _ due.checked

  second : IsDue (Blur rect r) s key → (int_le world.y (grown rect r).y && int_le (bottom (grown rect r)) (bottom world)) ≡ true
  second due = and_right (int_le world.x (grown rect r).x && int_le (right (grown rect r)) (right world)) _ (around due)

  pub blur_around : (part : Area) → IsWithin part rect → IsDue (Blur rect r) s key → lies_in (grown part r) world ≡ true
  blur_around part is due = both_true _ _
      (grown_axis world.x (right world) part.x rect.x part.w rect.w r is.left is.right (and_left _ _ (around due)))
      (grown_axis world.y (bottom world) part.y rect.y part.h rect.h r is.top is.bottom (second due))

  blur_painted : (part : Area) (b : Piece) → IsDue (Blur rect r) s key → IsShared rect (tile key) part → b.key ≡ key → b.rect ≡ part → ((p : Point) → holds part p ≡ true → piece_at b p ≡ blurred s r p)
      → IsPainted (paint (Blur rect r) s key (b ∷ []))
  blur_painted part b due shared ek er has = painted_once (Blur rect r) s key rect part (blurred s r) b refl (due_key _ _ _ due) shared
      (record { key_is = ek; rect_is = er; pixels = λ p h. ap (λ (a : Area). get_or b.pixels (place_in a p) clear) (sym er) ∙ has p h })
      (λ p h. ap (mean ((2 * r + 1) * (2 * r + 1))) (same_pixels (sight_at s) (at (layer_of s)) (points_of (square p.x p.y r))
      (λ q k. sym (seen_at s (grown rect r) q (and_left _ _ due.seen) (near rect r p q h (sym (any-points_of (square p.x p.y r) q) ∙ k))))))

  pub blur_result : {E : Type 0} (part : Area) (o : Result Piece E) → IsDue (Blur rect r) s key → IsShared rect (tile key) part → IfOk o (λ b. b.key ≡ key) → IfOk o (λ b. b.rect ≡ part)
      → IfOk o (λ b. (p : Point) → holds part p ≡ true → piece_at b p ≡ blurred s r p) → IfOk o (λ b. IsPainted (paint (Blur rect r) s key (b ∷ [])))
  blur_result part (Ok b) due shared ek er has = blur_painted part b due shared ek er has
  blur_result part (Err e) due shared ek er has = ek
