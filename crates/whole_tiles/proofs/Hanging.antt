-- On which pixels it hangs what a job leaves in one tile.
use Rattle.std.proofs.Common.{◌≡◌, ℕ, ◌+◌, ◌*◌, Bool, true, false, ◌&&◌, cond, [], ◌∷◌, refl, sym, ap, subst, ◌∙◌, arith}
use Rattle.std.specs.Prelude.{ℤ, pos, ◌+ℤ◌, ◌-ℤ◌, ◌≤ℤ◌, int_le, int_lt}
use borrow.Author.Differences.{ints}
use Rattle.pixel_core.specs.Rgba.{Rgba, clear}
use Rattle.pixel_core.specs.Compose.{compose, mul}
use Rattle.brush_mask.specs.Mask.{mask}
use Rattle.geom_core.specs.Areas.{Area, holds, moved, Point, point, meets}
use Rattle.geom_core.specs.Rects.{any_holds, IsWithin, IsShared}
use Rattle.geom_core.specs.Grid.{Key, tile, same_key, all_keys_of}
use Rattle.geom_core.proofs.Tests.{and_left, and_right, both_true, or_left, taken, or-false}
use Rattle.doc_model.specs.declared.job.Job.{Job}
use Rattle.doc_model.specs.declared.job.Job.TheVariants.{Fill, Dab, Move, Blur, Track}
use Rattle.doc_model.specs.Layers.{Layer, at}
use Rattle.doc_model.specs.Jobs.{reads, writes, value, apply, grown, all_stamped, checks, square}
use Rattle.doc_model.specs.Trails.{centres}
use Rattle.doc_model.specs.Shots.{in_tile}
use Rattle.doc_model.proofs.JobLaws.{at-apply, laws_of_jobs}
use Rattle.job_core.specs.Points.{is_point_op}
use Rattle.job_core.proofs.Values.{tile_held}
use Rattle.job_core.specs.Due.{IsDue}
use Rattle.job_core.proofs.Values.{one_met, some_of_limits}
use Rattle.job_core.proofs.Keys.{due_key, square_met}
use Rattle.job_core.proofs.BlurValues.{blur_around}
use Rattle.std.specs.List.{list_any}
use Rattle.std.specs.FinMap as map
use Rattle.geom_core.specs.Keys.{IsWorldKey}
use Rattle.tile_core.specs.Shots.{sight}
use Rattle.doc_model.specs.Lawful.{within_limits, of_limits}
use Rattle.whole_tiles.specs.Enough.{IsEnough}
use Rattle.whole_tiles.proofs.Seen.{own_seen}

-- what a job leaves at a point of its writes
written_at : (job : Job) (l : Layer) (p : Point) → any_holds (writes job) p ≡ true → at (apply job l) p ≡ value job l p
written_at job l p h = at-apply job l p ∙ taken (any_holds (writes job) p) (value job l p) (at l p) h

pub both_values : (job : Job) (a b : Layer) (p : Point) → any_holds (writes job) p ≡ true → value job a p ≡ value job b p → at (apply job a) p ≡ at (apply job b) p
both_values job a b p h e = written_at job a p h ∙ e ∙ sym (written_at job b p h)

-- a point of a rectangle that lies in the tile lies in the rectangle's part there
part_held : (rect part : Area) (key : Key) (p : Point) → IsShared rect (tile key) part → in_tile key p ≡ true → holds rect p ≡ true → holds part p ≡ true
part_held rect part key p shared inside h = shared.held p ∙ both_true _ _ h (tile_held key p ∙ inside)

read_part : (rect part : Area) (key : Key) (p : Point) → IsShared rect (tile key) part → holds part p ≡ true → holds rect p ≡ true
read_part rect part key p shared h = and_left _ _ (sym (shared.held p) ∙ h)

-- a point operation's value hangs on the point's own pixel
pub point_value : (job : Job) (a b : Layer) (p : Point) → is_point_op job ≡ true → at a p ≡ at b p → value job a p ≡ value job b p
point_value (Fill rect colour op strength) a b p h e = ap (λ d. compose op colour d strength) e
point_value (Dab x y r soft colour op strength) a b p h e = ap (λ d. compose op colour d (mul (mask r soft (p.x -ℤ x) (p.y -ℤ y)) strength)) e
point_value (Move rect dx dy) a b p h e = cc
point_value (Blur rect r) a b p h e = cc
point_value (Track t cell) a b p h e = ap (all_stamped t.stamp (centres t) p) e

pub point_enough : (job : Job) (rect part : Area) (key : Key) → is_point_op job ≡ true → writes job ≡ rect ∷ [] → reads job ≡ rect ∷ [] → IsShared rect (tile key) part → IsEnough job key part
point_enough job rect part key op w r shared = record {
  read = λ p h. ap (λ rs. any_holds rs p) r ∙ or_left (holds rect p) false (read_part rect part key p shared h);
  enough = λ a b same p inside h. both_values job a b p h (point_value job a b p op (same.pixels p
      (or_left (holds part p) false (part_held rect part key p shared inside (sym (or-false (holds rect p)) ∙ ap (λ rs. any_holds rs p) (sym w) ∙ h)))));
}

-- ---- moves

one_or_default : (b : Bool) (x y g h : Rgba) → (b ≡ true → x ≡ y) → g ≡ h → cond b x g ≡ cond b y h
one_or_default true x y g h e same = e refl
one_or_default false x y g h e same = same

back_held : (a d b : ℤ) (n : ℕ) → (int_le a b && int_lt b (a +ℤ pos n)) ≡ true → (int_le (a +ℤ (pos 0 -ℤ d)) (b -ℤ d) && int_lt (b -ℤ d) ((a +ℤ (pos 0 -ℤ d)) +ℤ pos n)) ≡ true
back_held a d b n h = grind (arith, ints)

came_low : (x y d b : ℤ) → (y +ℤ d) ≤ℤ x → int_le (x +ℤ (pos 0 -ℤ d)) b ≡ true → int_le y b ≡ true
came_low x y d b p h = grind (arith, ints)

came_high : (x y d b : ℤ) (n m : ℕ) → (x +ℤ pos n) ≤ℤ ((y +ℤ d) +ℤ pos m) → int_lt b ((x +ℤ (pos 0 -ℤ d)) +ℤ pos n) ≡ true → int_lt b (y +ℤ pos m) ≡ true
came_high x y d b n m q h = grind (arith, ints)

came_from : (x y d b : ℤ) (n m : ℕ) → (y +ℤ d) ≤ℤ x → (x +ℤ pos n) ≤ℤ ((y +ℤ d) +ℤ pos m) → (int_le (x +ℤ (pos 0 -ℤ d)) b && int_lt b ((x +ℤ (pos 0 -ℤ d)) +ℤ pos n)) ≡ true → (int_le y b && int_lt b (y +ℤ pos m)) ≡ true
came_from x y d b n m p q h = both_true _ _ (came_low x y d b p (and_left _ _ h)) (came_high x y d b n m q (and_right (int_le (x +ℤ (pos 0 -ℤ d)) b) _ h))

-- a part of the moved rectangle, moved back, lies in the rectangle
source_held : (rect part : Area) (dx dy : ℤ) (p : Point) → IsWithin part (moved rect dx dy) → holds (moved part (pos 0 -ℤ dx) (pos 0 -ℤ dy)) p ≡ true → holds rect p ≡ true
source_held rect part dx dy p is h = both_true _ _
    (came_from part.x rect.x dx p.x part.w rect.w is.left is.right (and_left _ _ h))
    (came_from part.y rect.y dy p.y part.h rect.h is.top is.bottom (and_right (int_le (part.x +ℤ (pos 0 -ℤ dx)) p.x && int_lt p.x ((part.x +ℤ (pos 0 -ℤ dx)) +ℤ pos part.w)) _ h))

-- where something is moved into the tile
pub move_enough : (rect to part from : Area) (dx dy : ℤ) (key : Key) → to ≡ moved rect dx dy → from ≡ moved part (pos 0 -ℤ dx) (pos 0 -ℤ dy) → IsShared to (tile key) part → IsEnough (Move rect dx dy) key from
move_enough rect to part from dx dy key et ef shared = record {
  read = λ p h. or_left (holds rect p) (any_holds (moved rect dx dy ∷ []) p)
      (source_held rect part dx dy p (subst (IsWithin part) et shared.in_a) (ap (λ (a : Area). holds a p) (sym ef) ∙ h));
  enough = λ a b same p inside h. both_values (Move rect dx dy) a b p h (one_or_default (holds (moved rect dx dy) p) _ _ _ _
      (λ e. same.pixels (point (p.x -ℤ dx) (p.y -ℤ dy)) (or_left _ false (ap (λ (c : Area). holds c (point (p.x -ℤ dx) (p.y -ℤ dy))) ef
      ∙ back part p (part_held to part key p shared inside (ap (λ (c : Area). holds c p) et ∙ e)))))
      same.default_pixel);
}
  where
    back : (part : Area) (p : Point) → holds part p ≡ true → holds (moved part (pos 0 -ℤ dx) (pos 0 -ℤ dy)) (point (p.x -ℤ dx) (p.y -ℤ dy)) ≡ true
    back part p h = both_true _ _ (back_held part.x dx p.x part.w (and_left _ _ h)) (back_held part.y dy p.y part.h (and_right (int_le part.x p.x && int_lt p.x (part.x +ℤ pos part.w)) _ h))

-- and where nothing is
pub still_enough : (rect to part : Area) (dx dy : ℤ) (key : Key) → to ≡ moved rect dx dy → ((p : Point) → holds to p ≡ true → holds (tile key) p ≡ false) → IsShared rect (tile key) part → IsEnough (Move rect dx dy) key part
still_enough rect to part dx dy key et apart shared = record {
  read = λ p h. or_left (holds rect p) (any_holds (moved rect dx dy ∷ []) p) (read_part rect part key p shared h);
  enough = λ a b same p inside h. both_values (Move rect dx dy) a b p h (one_or_default (holds (moved rect dx dy) p) _ _ _ _ (λ e. absurd (away p inside e)) same.default_pixel);
}
  where
    away : (p : Point) → in_tile key p ≡ true → holds (moved rect dx dy) p ≡ true → ⊥
    away p inside e = let no : true ≡ false = sym (tile_held key p ∙ inside) ∙ apart p (ap (λ (c : Area). holds c p) et ∙ e) in cc

-- ---- blurs

grown_low : (x y b : ℤ) (r : ℕ) → y ≤ℤ x → int_le (x -ℤ pos r) b ≡ true → int_le (y -ℤ pos r) b ≡ true
grown_low x y b r p h = grind (arith, ints)

grown_high : (x y b : ℤ) (n m r : ℕ) → (x +ℤ pos n) ≤ℤ (y +ℤ pos m) → int_lt b ((x -ℤ pos r) +ℤ pos (n + 2 * r)) ≡ true → int_lt b ((y -ℤ pos r) +ℤ pos (m + 2 * r)) ≡ true
grown_high x y b n m r q h = grind (arith, ints)

grown_axis : (x y b : ℤ) (n m r : ℕ) → y ≤ℤ x → (x +ℤ pos n) ≤ℤ (y +ℤ pos m) → (int_le (x -ℤ pos r) b && int_lt b ((x -ℤ pos r) +ℤ pos (n + 2 * r))) ≡ true → (int_le (y -ℤ pos r) b && int_lt b ((y -ℤ pos r) +ℤ pos (m + 2 * r))) ≡ true
grown_axis x y b n m r p q h = both_true _ _ (grown_low x y b r p (and_left _ _ h)) (grown_high x y b n m r q (and_right (int_le (x -ℤ pos r) b) _ h))

grown_held : (rect part : Area) (r : ℕ) (p : Point) → IsWithin part rect → holds (grown part r) p ≡ true → holds (grown rect r) p ≡ true
grown_held rect part r p is h = both_true _ _
    (grown_axis part.x rect.x p.x part.w rect.w r is.left is.right (and_left _ _ h))
    (grown_axis part.y rect.y p.y part.h rect.h r is.top is.bottom (and_right (int_le (part.x -ℤ pos r) p.x && int_lt p.x ((part.x -ℤ pos r) +ℤ pos (part.w + 2 * r))) _ h))

pub blur_enough : (rect part near : Area) (r : ℕ) (key : Key) → near ≡ grown part r → IsShared rect (tile key) part → IsEnough (Blur rect r) key near
blur_enough rect part near r key e shared = subst (IsEnough (Blur rect r) key) (sym e) (record {
  read = λ p h. or_left _ false (grown_held rect part r p shared.in_a h);
  enough = λ a b same p inside h.
      let held : any_holds (part ∷ []) p ≡ true = or_left (holds part p) false (part_held rect part key p shared inside (sym (or-false (holds rect p)) ∙ h)) in
      both_values (Blur rect r) a b p h (sym (written_at (Blur part r) a p held) ∙ laws_of_jobs.inside (Blur part r) a b p same held ∙ written_at (Blur part r) b p held);
})

-- ---- by what a job is

-- a job may be painted from a shot of its reads
pub due_of : (job : Job) (key : Key) → checks job ≡ true → within_limits job ≡ true → list_any (same_key key) (all_keys_of (writes job)) ≡ true → IsDue job (sight clear (reads job) map.empty) key
due_of job key checked limits met = record { checked = checked; limits = limits; seen = own_seen (reads job) (reads job) refl; met = met }

pub key_of_job : (job : Job) (key : Key) → checks job ≡ true → within_limits job ≡ true → list_any (same_key key) (all_keys_of (writes job)) ≡ true → IsWorldKey key
key_of_job job key checked limits met = due_key job _ key (due_of job key checked limits met)

-- one rectangle that is written meets the tile
pub rect_met : (job : Job) (rect : Area) (key : Key) → writes job ≡ rect ∷ [] → of_limits rect ≡ true → list_any (same_key key) (all_keys_of (writes job)) ≡ true → meets rect (tile key) ≡ true
rect_met job rect key w limits met = one_met rect key (some_of_limits rect limits) (ap (λ rs. list_any (same_key key) (all_keys_of rs)) (sym w) ∙ met)

-- a part of what a blur writes may be blurred on its own
pub blur_lies : (job : Job) (rect part : Area) (r : ℕ) (key : Key) → job ≡ Blur rect r → checks job ≡ true → within_limits job ≡ true → list_any (same_key key) (all_keys_of (writes job)) ≡ true → IsWithin part rect → checks (Blur part r) ≡ true
blur_lies job rect part r key e checked limits met is = both_true _ _ (blur_around rect r _ key part is (subst (λ (j : Job). IsDue j (sight clear (reads j) map.empty) key) e (due_of job key checked limits met))) refl

-- a point operation reads what it writes
pub point_reads : (job : Job) → is_point_op job ≡ true → reads job ≡ writes job
point_reads (Fill rect colour op strength) h = refl
point_reads (Dab x y r soft colour op strength) h = refl
point_reads (Move rect dx dy) h = cc
point_reads (Blur rect r) h = cc
point_reads (Track t cell) h = refl

pub point_met : (job : Job) (rect : Area) (key : Key) → is_point_op job ≡ true → writes job ≡ rect ∷ [] → within_limits job ≡ true → list_any (same_key key) (all_keys_of (writes job)) ≡ true → meets rect (tile key) ≡ true
point_met (Fill r colour op strength) rect key op' w limits met = let e : r ≡ rect = cc in ap (λ (a : Area). meets a (tile key)) (sym e) ∙ one_met r key (some_of_limits r limits) met
point_met (Dab x y r soft colour op strength) rect key op' w limits met = let e : rect ≡ square x y r = cc in square_met x y r rect key e met
point_met (Move r dx dy) rect key op' w limits met = cc
point_met (Blur r n) rect key op' w limits met = cc
point_met (Track t cell) rect key op' w limits met = let e : tile cell ≡ rect = cc in ap (λ (a : Area). meets a (tile key)) (sym e) ∙ one_met (tile cell) key (omega arith, omega arith) met
