-- Layers after steps.
use Rattle.std.proofs.Common.{◌≡◌, ℕ, suc, zero, ◌+◌, ◌*◌, Bool, true, false, cond, eqb, List, [], ◌∷◌, ◌++◌, length, ◌≤◌, Some, refl, sym, ap, ◌∙◌, arith}
use Rattle.std.specs.Prelude.{slice_get, ℤ, pos, negsuc, ◌+ℤ◌, ◌-ℤ◌, ◌≤ℤ◌, int_le, int_lt, ◌&&◌, ◌||◌, nat_abs, nat_le}
use Rattle.std.specs.List.{list_all}
use borrow.Author.Differences.{ints}
use Rattle.geom_core.specs.Areas.{Area, holds, lies_in, moved, right, world, Point}
use Rattle.geom_core.specs.Rects.{any_holds, IsInWorld}
use Rattle.geom_core.proofs.Tests.{and_left, and_right, taken, kept}
use Rattle.doc_model.specs.Lawful.{within_limits, of_limits}
use Rattle.std.proofs.lemmas.Bool.Decides.{nat_tests}
use Rattle.doc_model.specs.declared.job.Job.TheVariants.{Move, Blur}
use Rattle.doc_model.specs.declared.job.Job.{Job}
use Rattle.doc_model.specs.declared.job.Kind.{Kind}
use Rattle.pixel_core.specs.Rgba.{clear}
use Rattle.doc_model.proofs.JobLaws.{at-apply}
use Rattle.doc_model.specs.Layers.{Layer, at, plain}
use Rattle.doc_model.specs.Jobs.{apply, apply_all, grown, square, value, writes, checks}
use Rattle.doc_model.specs.Strokes.{Jobs}
use Rattle.machine_model.specs.UnderWay.{jobs_only}
use Rattle.plain_painter.specs.declared.layer.Step.{Step}
use Rattle.plain_painter.specs.declared.layer.Deed.{Deed}
use Rattle.plain_painter.specs.declared.layer.Deed.TheVariants.{Paint}
use Rattle.plain_painter.specs.Steps.{done, layer_after, is_sound, job_sound}

apply_last : (js : List Job) (j : Job) (layer : Layer) → apply j (apply_all js layer) ≡ apply_all (js ++ j ∷ []) layer
apply_last [] j layer = refl
apply_last (k ∷ js) j layer = apply_last js j (apply k layer)

jobs_last : (jobs : Jobs) (j : Kind × Job) → jobs_only (jobs ++ j ∷ []) ≡ jobs_only jobs ++ j.1 ∷ []
jobs_last [] j = refl
jobs_last (k ∷ jobs) j = ap (λ js. k.1 ∷ js) (jobs_last jobs j)

-- the layers after these jobs on one of them
abbrev pub Laid : ℕ → List Step → Jobs → List Step → Type 0
Laid id old jobs new = (q : ℕ) → layer_after q new ≡ cond (eqb id q) (apply_all (jobs_only jobs) (layer_after q old)) (layer_after q old)

pub none_laid : (id : ℕ) (old : List Step) → Laid id old [] old
none_laid id old q = go (eqb id q)
  where
    go : (b : Bool) → layer_after q old ≡ cond b (layer_after q old) (layer_after q old)
    go true = refl
    go false = refl

pub one_laid : (id : ℕ) (old : List Step) (jobs : Jobs) (j : Kind × Job) (new : List Step) → Laid id old jobs new → Laid id old (jobs ++ j ∷ []) (record { layer = id; deed = Paint j.1 } ∷ new)
one_laid id old jobs j new so q = go (eqb id q) (so q)
  where
    go : (b : Bool) → layer_after q new ≡ cond b (apply_all (jobs_only jobs) (layer_after q old)) (layer_after q old)
        → cond b (apply j.1 (layer_after q new)) (layer_after q new) ≡ cond b (apply_all (jobs_only (jobs ++ j ∷ [])) (layer_after q old)) (layer_after q old)
    go true e = ap (apply j.1) e ∙ apply_last (jobs_only jobs) j.1 (layer_after q old) ∙ ap (λ js. apply_all js (layer_after q old)) (sym (jobs_last jobs j))
    go false e = e

-- the jobs of a stroke are sound one by one
pub sound_at : (jobs : Jobs) (i : ℕ) (j : Kind × Job) → slice_get jobs i ≡ Some j → list_all job_sound (jobs_only jobs) ≡ true → job_sound j.1 ≡ true
sound_at [] i j e h = cc
sound_at (k ∷ jobs) zero j e h = let same : k ≡ j = cc in ap (λ (l : Kind × Job). job_sound l.1) (sym same) ∙ and_left (job_sound k.1) _ h
sound_at (k ∷ jobs) (suc i) j e h = sound_at jobs i j e (and_right (job_sound k.1) _ h)

-- the square round a point of a blurred rectangle lies in the world
axis_round : (x a : ℤ) (w r : ℕ) → (int_le a x && int_lt x (a +ℤ pos w)) ≡ true → (int_le (negsuc 16383) (a -ℤ pos r) && int_le ((a -ℤ pos r) +ℤ pos (w + 2 * r)) (negsuc 16383 +ℤ pos 32768)) ≡ true
    → (negsuc 16383 ≤ℤ (x -ℤ pos r)) × (((x -ℤ pos r) +ℤ pos (2 * r + 1)) ≤ℤ (negsuc 16383 +ℤ pos 32768))
axis_round x a w r h k = grind (arith, ints)

pub round_in_world : (rect : Area) (r : ℕ) (p : Point) → job_sound (Blur rect r) ≡ true → holds rect p ≡ true → IsInWorld (square p.x p.y r)
round_in_world rect r p s h =
    let grown_in : lies_in (grown rect r) world ≡ true = and_left (lies_in (grown rect r) world) _ (and_left (checks (Blur rect r)) _ s) in
    let across = axis_round p.x rect.x rect.w r (and_left _ _ h) (and_left _ _ grown_in) in
    let down = axis_round p.y rect.y rect.h r (and_right (int_le rect.x p.x && int_lt p.x (right rect)) _ h) (and_right (int_le world.x (grown rect r).x && int_le (right (grown rect r)) (right world)) _ grown_in) in
    record { left = across.0; right = across.1; top = down.0; bottom = down.1 }

-- the first of sound steps, and the others
pub first_sound : (steps older : List Step) (s : Step) → steps ≡ s ∷ older → list_all is_sound steps ≡ true → (is_sound s ≡ true) × (list_all is_sound older ≡ true)
first_sound steps older s e h = let all : list_all is_sound (s ∷ older) ≡ true = ap (list_all is_sound) (sym e) ∙ h in (and_left (is_sound s) _ all, and_right (is_sound s) _ all)

-- a step of another layer
pub layer_other : (id : ℕ) (steps older : List Step) (s : Step) → steps ≡ s ∷ older → eqb s.layer id ≡ false → layer_after id older ≡ layer_after id steps
layer_other id steps older s e f = sym (ap (layer_after id) e ∙ kept (eqb s.layer id) _ _ f)

-- and of this one
pub layer_own : (id : ℕ) (steps older : List Step) (s : Step) (d : Deed) → steps ≡ s ∷ older → eqb s.layer id ≡ true → s.deed ≡ d → done d (layer_after id older) ≡ layer_after id steps
layer_own id steps older s d e t is = sym (ap (layer_after id) e ∙ taken (eqb s.layer id) _ _ t ∙ ap (λ x. done x (layer_after id older)) is)

-- the pixel where a job has written, and elsewhere
pub at_written : (job : Job) (layer : Layer) (p : Point) → any_holds (writes job) p ≡ true → value job layer p ≡ at (apply job layer) p
at_written job layer p t = sym (at-apply job layer p ∙ taken (any_holds (writes job) p) _ _ t)

pub at_other : (job : Job) (layer : Layer) (p : Point) → any_holds (writes job) p ≡ false → at layer p ≡ at (apply job layer) p
at_other job layer p f = sym (at-apply job layer p ∙ kept (any_holds (writes job) p) _ _ f)

-- the point that was moved lies in the rectangle of a sound move
axis_back : (x a d : ℤ) (w : ℕ) → (int_le (a +ℤ d) x && int_lt x ((a +ℤ d) +ℤ pos w)) ≡ true → (int_le (negsuc 16383) a && int_le (a +ℤ pos w) (negsuc 16383 +ℤ pos 32768)) ≡ true
    → (negsuc 16383 ≤ℤ (x -ℤ d)) × ((x -ℤ d) ≤ℤ pos 16383)
axis_back x a d w h k = grind (arith, ints)

pub record IsBack (p : Point) (dx dy : ℤ) : Type 0 where
  pub left : negsuc 16383 ≤ℤ (p.x -ℤ dx)
  pub right : (p.x -ℤ dx) ≤ℤ pos 16383
  pub top : negsuc 16383 ≤ℤ (p.y -ℤ dy)
  pub bottom : (p.y -ℤ dy) ≤ℤ pos 16383

pub back_in_world : (rect : Area) (dx dy : ℤ) (p : Point) → job_sound (Move rect dx dy) ≡ true → holds (moved rect dx dy) p ≡ true → IsBack p dx dy
back_in_world rect dx dy p s h =
    let rect_in : lies_in rect world ≡ true = and_left (lies_in rect world) _ (and_left (checks (Move rect dx dy)) _ s) in
    let across = axis_back p.x rect.x dx rect.w (and_left _ _ h) (and_left _ _ rect_in) in
    let down = axis_back p.y rect.y dy rect.h (and_right (int_le (moved rect dx dy).x p.x && int_lt p.x (right (moved rect dx dy))) _ h) (and_right (int_le world.x rect.x && int_le (right rect) (right world)) _ rect_in) in
    record { left = across.0; right = across.1; top = down.0; bottom = down.1 }

-- x is at most r from c
pub record IsNear (x c : ℤ) (r : ℕ) : Type 0 where
  pub low : (pos 0 -ℤ pos r) ≤ℤ (x -ℤ c)
  pub high : (x -ℤ c) ≤ℤ pos r

near_pair : (x c : ℤ) (r : ℕ) → (int_le (c -ℤ pos r) x && int_lt x ((c -ℤ pos r) +ℤ pos (2 * r + 1))) ≡ true → ((pos 0 -ℤ pos r) ≤ℤ (x -ℤ c)) × ((x -ℤ c) ≤ℤ pos r)
near_pair x c r h = grind (arith, ints)

-- a point of the square round another is near to it
pub near_axis : (x c : ℤ) (r : ℕ) → (int_le (c -ℤ pos r) x && int_lt x ((c -ℤ pos r) +ℤ pos (2 * r + 1))) ≡ true → IsNear x c r
near_axis x c r h = let n = near_pair x c r h in record { low = n.0; high = n.1 }

abs_small : (z : ℤ) (r : ℕ) → (pos 0 -ℤ pos r) ≤ℤ z → z ≤ℤ pos r → r ≤ 128 → nat_abs z ≤ 128
abs_small z r h k l = grind (arith, ints)

pub near_small : (x c : ℤ) (r : ℕ) → IsNear x c r → r ≤ 128 → nat_abs (x -ℤ c) ≤ 128
near_small x c r n h = abs_small (x -ℤ c) r n.low n.high h

-- no step
pub no_steps : (id : ℕ) (steps : List Step) → length steps ≡ 0 → layer_after id steps ≡ plain clear
no_steps id [] h = refl
no_steps id (s ∷ steps) h = absurd (omega arith)

-- the one that is held
pub one_holds : (b : Bool) → (b || false) ≡ true → b ≡ true
one_holds true e = refl
one_holds false e = e

-- the side of a blur's square
at_most : (a b : ℕ) → nat_le a b ≡ true → a ≤ b
at_most a b h = grind (arith, nat_tests)

squared : (a : ℕ) → a ≤ 33 → a * a ≤ 1089
squared a h = grind arith

pub few_round : (rect : Area) (r : ℕ) → job_sound (Blur rect r) ≡ true → (2 * r + 1) * (2 * r + 1) ≤ 1089
few_round rect r h =
    let limits : within_limits (Blur rect r) ≡ true = and_right (checks (Blur rect r)) _ h in
    let low : r ≤ 16 = at_most r 16 (and_right (nat_le 1 r) _ (and_right (of_limits rect) _ limits)) in
    squared (2 * r + 1) (omega arith)
