-- The laws of jobs.
use Rattle.std.proofs.Common.{◌≡◌, ℕ, ◌+◌, ◌*◌, Bool, true, false, ◌&&◌, ◌||◌, cond, List, [], ◌∷◌, map, refl, sym, ap, ◌∙◌, arith}
use Rattle.std.specs.Prelude.{◌-ℤ◌, ◌+ℤ◌, ℤ, pos, int_le, int_lt}
use Rattle.std.specs.List.{list_any}
use borrow.Author.Differences.{ints}
use Rattle.pixel_core.specs.Rgba.{Rgba}
use Rattle.pixel_core.specs.Compose.{compose, mul}
use Rattle.brush_mask.specs.Mask.{mask}
use Rattle.geom_core.specs.Areas.{Area, holds, moved, points_of, Point, point}
use Rattle.geom_core.specs.Same.{same_point}
use Rattle.geom_core.specs.Rects.{any_holds}
use Rattle.geom_core.proofs.Members.{any-points_of}
use Rattle.geom_core.proofs.Tests.{and_left, and_right, both_true, or_left, or_right, and-true}
use Rattle.doc_model.specs.declared.job.Job.{Job}
use Rattle.doc_model.specs.declared.job.Job.TheVariants.{Fill, Dab, Move, Blur, Track}
use Rattle.doc_model.specs.Trails.{centres}
use Rattle.doc_model.specs.Layers.{Layer, at}
use Rattle.doc_model.proofs.LayerLaws.{at-painted, default-painted}
use Rattle.doc_model.specs.Jobs.{reads, writes, value, apply, grown, square, mean, all_stamped}
use Rattle.doc_model.specs.Laws.{SameOn, LawsOfJobs}

-- what the job leaves at each point
pub at-apply : (job : Job) (layer : Layer) (p : Point) → at (apply job layer) p ≡ cond (any_holds (writes job) p) (value job layer p) (at layer p)
unfolding apply
at-apply job layer p = at-painted (writes job) (λ _. true) (value job layer) layer p ∙ ap (λ b. cond b (value job layer p) (at layer p)) (and-true _)

pub default-apply : (job : Job) (layer : Layer) → (apply job layer).default_pixel ≡ layer.default_pixel
unfolding apply
default-apply job layer = default-painted (writes job) (λ _. true) (value job layer) layer

outside : (job : Job) (layer : Layer) (p : Point) → any_holds (writes job) p ≡ false → at (apply job layer) p ≡ at layer p
outside job layer p out = at-apply job layer p ∙ ap (λ b. cond b (value job layer p) (at layer p)) out

-- a point that a move brings something to got it from its source
shifted : (a d b : ℤ) (n : ℕ) → (int_le (a +ℤ d) b && int_lt b ((a +ℤ d) +ℤ pos n)) ≡ (int_le a (b -ℤ d) && int_lt (b -ℤ d) (a +ℤ pos n))
shifted a d b n = grind (arith, ints)

both_same : {a b c d : Bool} → a ≡ b → c ≡ d → (a && c) ≡ (b && d)
both_same e h i = e i && h i

from_source : (a : Area) (dx dy : ℤ) (p : Point) → holds (moved a dx dy) p ≡ true → holds a (point (p.x -ℤ dx) (p.y -ℤ dy)) ≡ true
from_source a dx dy p h = both_same (sym (shifted a.x dx p.x a.w)) (sym (shifted a.y dy p.y a.h)) ∙ h

-- the points near one of a rectangle lie in the grown rectangle
near_axis : (a p q : ℤ) (n r : ℕ) → (int_le a p && int_lt p (a +ℤ pos n)) ≡ true → (int_le (p -ℤ pos r) q && int_lt q ((p -ℤ pos r) +ℤ pos (2 * r + 1))) ≡ true
    → (int_le (a -ℤ pos r) q && int_lt q ((a -ℤ pos r) +ℤ pos (n + 2 * r))) ≡ true
near_axis a p q n r h k = grind (arith, ints)

near : (a : Area) (r : ℕ) (p q : Point) → holds a p ≡ true → holds (square p.x p.y r) q ≡ true → holds (grown a r) q ≡ true
near a r p q h k = both_true _ _
    (near_axis a.x p.x q.x a.w r (and_left _ _ h) (and_left (int_le (p.x -ℤ pos r) q.x && int_lt q.x ((p.x -ℤ pos r) +ℤ pos (2 * r + 1))) _ k))
    (near_axis a.y p.y q.y a.h r (and_right _ _ h) (and_right (int_le (p.x -ℤ pos r) q.x && int_lt q.x ((p.x -ℤ pos r) +ℤ pos (2 * r + 1))) _ k))

grown_axis : (a p : ℤ) (n r : ℕ) → (int_le a p && int_lt p (a +ℤ pos n)) ≡ true → (int_le (a -ℤ pos r) p && int_lt p ((a -ℤ pos r) +ℤ pos (n + 2 * r))) ≡ true
grown_axis a p n r h = grind (arith, ints)

grown_holds : (a : Area) (r : ℕ) (p : Point) → holds a p ≡ true → holds (grown a r) p ≡ true
grown_holds a r p h = both_true _ _ (grown_axis a.x p.x a.w r (and_left _ _ h)) (grown_axis a.y p.y a.h r (and_right _ _ h))

itself : (p : Point) → same_point p p ≡ true
itself p = grind (arith, Rattle.std.proofs.lemmas.Bool.Decides.nat_tests, ints)

-- pixels at the same points
same_pixels : (f g : Point → Rgba) (ps : List Point) → ((q : Point) → list_any (same_point q) ps ≡ true → f q ≡ g q) → map f ps ≡ map g ps
same_pixels f g [] same = refl
same_pixels f g (p ∷ ps) same = cons (same p (or_left _ _ (itself p))) (same_pixels f g ps (λ q h. same q (or_right _ _ h)))
  where
    cons : {x y : Rgba} {xs ys : List Rgba} → x ≡ y → xs ≡ ys → (x ∷ xs) ≡ (y ∷ ys)
    cons e h i = e i ∷ h i

one_or_ground : (b : Bool) (x y g h : Rgba) → (b ≡ true → x ≡ y) → g ≡ h → cond b x g ≡ cond b y h
one_or_ground true x y g h e same = e refl
one_or_ground false x y g h e same = same

one_held : (a : Area) (p : Point) → any_holds (a ∷ []) p ≡ true → holds a p ≡ true
one_held a p h = go (holds a p) h
  where
    go : (b : Bool) → (b || false) ≡ true → b ≡ true
    go true e = e
    go false e = e

value_same : (job : Job) (a b : Layer) (p : Point) → SameOn (reads job) a b → any_holds (writes job) p ≡ true → value job a p ≡ value job b p
value_same (Fill rect colour op strength) a b p same h = ap (λ d. compose op colour d strength) (same.pixels p h)
value_same (Dab x y r soft colour op strength) a b p same h = ap (λ d. compose op colour d (mul (mask r soft (p.x -ℤ x) (p.y -ℤ y)) strength)) (same.pixels p h)
value_same (Move rect dx dy) a b p same h = one_or_ground (holds (moved rect dx dy) p) _ _ _ _ (λ e. same.pixels _ (or_left _ _ (from_source rect dx dy p e))) same.default_pixel
value_same (Blur rect r) a b p same h = ap (mean ((2 * r + 1) * (2 * r + 1))) (same_pixels (at a) (at b) (points_of (square p.x p.y r))
    (λ q k. same.pixels q (or_left _ _ (near rect r p q (one_held rect p h) (sym (any-points_of (square p.x p.y r) q) ∙ k)))))
value_same (Track t cell) a b p same h = ap (all_stamped t.stamp (centres t) p) (same.pixels p h)

inside : (job : Job) (a b : Layer) (p : Point) → SameOn (reads job) a b → any_holds (writes job) p ≡ true → at (apply job a) p ≡ at (apply job b) p
inside job a b p same h = there a ∙ value_same job a b p same h ∙ sym (there b)
  where
    there : (l : Layer) → at (apply job l) p ≡ value job l p
    there l = at-apply job l p ∙ ap (λ t. cond t (value job l p) (at l p)) h

within : (job : Job) (p : Point) → any_holds (writes job) p ≡ true → any_holds (reads job) p ≡ true
within (Fill rect colour op strength) p h = h
within (Dab x y r soft colour op strength) p h = h
within (Move rect dx dy) p h = h
within (Blur rect r) p h = or_left _ _ (grown_holds rect r p (one_held rect p h))
within (Track t cell) p h = h

pub laws_of_jobs : LawsOfJobs
laws_of_jobs = record { default_pixel = default-apply; outside = outside; inside = inside; within = within }
