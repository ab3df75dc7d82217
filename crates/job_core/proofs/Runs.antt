-- Runs of jobs that write within one tile.
use borrow.Author.Differences.{ints}
use Rattle.std.proofs.Common.{◌≡◌, ℕ, ◌+◌, ◌≤◌, ◌<◌, Bool, true, false, ◌&&◌, cond, List, [], ◌∷◌, ◌++◌, append-nil, length, take, get_or, refl, sym, ap, subst, ◌∙◌, arith}
use Rattle.std.specs.Prelude.{ℤ, pos, ◌+ℤ◌, int_le, int_lt, All}
use Rattle.std.specs.List.{list_any, take_while, AllByRecursion}
use Rattle.std.proofs.lemmas.List.{take_all}
use Rattle.std.proofs.lemmas.Grind.{take_at_read}
use Rattle.std.proofs.lemmas.List.Elements.{All-from_recursion, recursion_from_All, All-take}
use Rattle.std.proofs.lemmas.List.Sums.{take_while-cons}
use Rattle.geom_core.specs.Areas.{Area, lies_in, Point}
use Rattle.geom_core.specs.Rects.{any_holds}
use Rattle.geom_core.specs.Grid.{Key, same_key, tile, keys_of, all_keys_of}
use Rattle.geom_core.proofs.Axes.{tiles_met}
use Rattle.geom_core.proofs.Tests.{and_left, and_right, both_true, taken}
use Rattle.tile_core.specs.Pixels.{Pixels}
use Rattle.doc_model.specs.declared.job.Job.{Job}
use Rattle.doc_model.specs.declared.job.Job.TheVariants.{Fill, Dab, Move, Blur, Track}
use Rattle.doc_model.specs.declared.job.Kind.{Kind}
use Rattle.doc_model.specs.Shots.{in_tile}
use Rattle.doc_model.specs.Layers.{Layer, at}
use Rattle.doc_model.specs.Lawful.{within_limits}
use Rattle.doc_model.specs.Jobs.{checks, square, writes, apply}
use Rattle.doc_model.specs.Strokes.{Jobs}
use Rattle.doc_model.proofs.JobLaws.{laws_of_jobs}
use Rattle.doc_model.proofs.Shots.{at-published}
use Rattle.job_core.specs.Points.{Spot, is_within, painted_in, all_painted_in, spot, IsPointJob, IsRun, LaysJob, LaysPoints}
use Rattle.job_core.proofs.Values.{HasPoints, some_of_limits}
use Rattle.job_core.proofs.Keys.{square_some}

-- ---- the front of a list that passes a test

module _ {A : Type 0} (p : A → Bool) where
  -- it is as many items as it has
  pub front_taken : (xs : List A) → take_while p xs ≡ take (length (take_while p xs)) xs
  front_taken [] = refl
  front_taken (x ∷ xs) = rw (take_while-cons p x xs) (go (p x) (front_taken xs))
    where
      go : (b : Bool) → take_while p xs ≡ take (length (take_while p xs)) xs → cond b (x ∷ take_while p xs) [] ≡ take (length (cond b (x ∷ take_while p xs) [])) (x ∷ xs)
      go true more = ap (λ ys. x ∷ ys) more
      go false more = refl

  front_passes : (xs : List A) → AllByRecursion (λ x. p x ≡ true) (take_while p xs)
  front_passes [] = tt
  front_passes (x ∷ xs) = rw (take_while-cons p x xs) (go (p x) refl (front_passes xs))
    where
      go : (b : Bool) → p x ≡ b → AllByRecursion (λ x. p x ≡ true) (take_while p xs) → AllByRecursion (λ x. p x ≡ true) (cond b (x ∷ take_while p xs) [])
      go true e more = (e, more)
      go false e more = tt

  -- each of its items passes
  pub front_all : (xs : List A) → All (λ x. p x ≡ true) (take_while p xs)
  front_all xs = All-from_recursion (λ x. p x ≡ true) (take_while p xs) (front_passes xs)

-- ---- tiles

meets_axis : (a b : ℤ) (n : ℕ) → 1 ≤ n → (int_le b a && int_le (a +ℤ pos n) (b +ℤ pos 64)) ≡ true → (int_lt a (b +ℤ pos 64) && int_lt b (a +ℤ pos n)) ≡ true
meets_axis a b n some h = grind (arith, ints)

-- a rectangle meets the tile that it lies in
met_within : (rect : Area) (key : Key) → HasPoints rect → (lies_in rect (tile key) && true) ≡ true → list_any (same_key key) (all_keys_of (rect ∷ [])) ≡ true
met_within rect key some h =
    let lies : lies_in rect (tile key) ≡ true = and_left _ _ h in
    ap (list_any (same_key key)) (append-nil (keys_of rect)) ∙ (tiles_met rect some.0 some.1).exact key
    ∙ both_true _ _ (meets_axis rect.x (tile key).x rect.w some.0 (and_left _ _ lies)) (meets_axis rect.y (tile key).y rect.h some.1 (and_right _ _ lies))

job_met : (key : Key) (job : Job) → within_limits job ≡ true → is_within (tile key) job ≡ true → list_any (same_key key) (all_keys_of (writes job)) ≡ true
job_met key (Fill rect colour op strength) l h = met_within rect key (some_of_limits rect l) h
job_met key (Dab x y r soft colour op strength) l h = met_within (square x y r) key (square_some x y r) h
job_met key (Move rect dx dy) l h = cc
job_met key (Blur rect r) l h = cc
job_met key (Track t cell) l h = met_within (tile cell) key (omega arith, omega arith) h

point_jobs : (key : Key) (jobs : Jobs) → AllByRecursion (λ j. checks j.1 ≡ true) jobs → AllByRecursion (λ j. within_limits j.1 ≡ true) jobs → AllByRecursion (λ j. is_within (tile key) j.1 ≡ true) jobs → AllByRecursion (λ j. IsPointJob key j.1) jobs
point_jobs key [] c l w = tt
point_jobs key (j ∷ jobs) c l w = (record { point_op = and_left _ _ w.0; checked = c.0; limits = l.0; met = job_met key j.1 l.0 w.0 }, point_jobs key jobs c.1 l.1 w.1)

run_front : (key : Key) (jobs : Jobs) (n : ℕ) → n ≡ length (take_while (λ j. is_within (tile key) j.1) jobs) → take_while (λ j. is_within (tile key) j.1) jobs ≡ take n jobs
run_front key jobs n e = front_taken (λ j. is_within (tile key) j.1) jobs ∙ ap (λ m. take m jobs) (sym e)

-- the jobs of a run, which are the first ones
pub run_jobs : (key : Key) (jobs : Jobs) (n : ℕ) → n ≡ length (take_while (λ j. is_within (tile key) j.1) jobs) → All (λ j. checks j.1 ≡ true) jobs → All (λ j. within_limits j.1 ≡ true) jobs → All (λ j. IsPointJob key j.1) (take n jobs)
run_jobs key jobs n e c l = All-from_recursion (λ j. IsPointJob key j.1) (take n jobs) (point_jobs key (take n jobs)
    (recursion_from_All (λ j. checks j.1 ≡ true) (take n jobs) (All-take (λ j. checks j.1 ≡ true) n jobs c))
    (recursion_from_All (λ j. within_limits j.1 ≡ true) (take n jobs) (All-take (λ j. within_limits j.1 ≡ true) n jobs l))
    (recursion_from_All (λ j. is_within (tile key) j.1 ≡ true) (take n jobs) (subst (All (λ j. is_within (tile key) j.1 ≡ true)) (run_front key jobs n e) (front_all (λ j. is_within (tile key) j.1) jobs))))

pub run_is : (key : Key) (jobs : Jobs) (n : ℕ) (w : Spot) → n ≡ length (take_while (λ j. is_within (tile key) j.1) jobs) → (n ≡ 0 → ⊥) → w ≡ spot (take n jobs) key → IsRun jobs w
run_is key jobs n w e some is = subst (IsRun jobs) (sym is) (record {
  some = let m : length (take n jobs) ≡ n = ap length (sym (run_front key jobs n e)) ∙ sym e in omega (arith, m, some);
  front = sym (run_front key jobs n e);
})

-- ---- one job after another

-- in the tile a job leaves what it leaves of the whole layer
painted_here : (job : Job) (key : Key) (layer : Layer) (p : Point) → in_tile key p ≡ true → at (painted_in job key layer) p ≡ at (apply job layer) p
painted_here job key layer p inside = at-published job layer key layer p ∙ go (any_holds (writes job) p) refl
  where
    go : (b : Bool) → any_holds (writes job) p ≡ b → cond (b && in_tile key p) (at (apply job layer) p) (at layer p) ≡ at (apply job layer) p
    go true h = taken (in_tile key p) _ _ inside
    go false h = sym (laws_of_jobs.outside job layer p h)

pub painted_last : (jobs : Jobs) (j : Kind × Job) (key : Key) (layer : Layer) → all_painted_in (jobs ++ j ∷ []) key layer ≡ painted_in j.1 key (all_painted_in jobs key layer)
painted_last [] j key layer = refl
painted_last (i ∷ jobs) j key layer = painted_last jobs j key (painted_in i.1 key layer)

job_more : (jobs : Jobs) (i : ℕ) (j : Kind × Job) (key : Key) (old mid new : Pixels) → i < length jobs → j ≡ get_or jobs i j → LaysJob key j.1 mid new → LaysPoints (spot (take i jobs) key) old mid → LaysPoints (spot (take (i + 1) jobs) key) old new
job_more jobs i j key old mid new h e two one layer has p inside =
    let more : take (i + 1) jobs ≡ take i jobs ++ j ∷ [] = (take_at_read jobs i j h).1 ∙ ap (λ x. take i jobs ++ x ∷ []) (sym e) in
    ap (λ js. at (all_painted_in js key layer) p) more ∙ ap (λ l. at l p) (painted_last (take i jobs) j key layer)
    ∙ painted_here j.1 key (all_painted_in (take i jobs) key layer) p inside ∙ two (all_painted_in (take i jobs) key layer) (one layer has) p inside

-- one job more of some work
pub lays_more : (v w : Spot) (i : ℕ) (j : Kind × Job) (old mid new : Pixels) → v ≡ w → i < length v.jobs → j ≡ get_or v.jobs i j → LaysJob v.key j.1 mid new → LaysPoints (spot (take i w.jobs) w.key) old mid → LaysPoints (spot (take (i + 1) w.jobs) w.key) old new
lays_more v w i j old mid new is h e two = subst (λ (u : Spot). LaysPoints (spot (take i u.jobs) u.key) old mid → LaysPoints (spot (take (i + 1) u.jobs) u.key) old new) is (job_more v.jobs i j v.key old mid new h e two)

-- all of its jobs
pub lays_all : (w : Spot) (i : ℕ) (old new : Pixels) → length w.jobs ≤ i → LaysPoints (spot (take i w.jobs) w.key) old new → LaysPoints w old new
lays_all w i old new h lays = subst (λ js. LaysPoints (spot js w.key) old new) (take_all i w.jobs h) lays

-- its one job
pub lays_alone : (v w : Spot) (j : Kind × Job) (old new : Pixels) → v ≡ w → length v.jobs ≡ 1 → j ≡ get_or v.jobs 0 j → LaysJob v.key (get_or v.jobs 0 j).1 old new → LaysPoints w old new
lays_alone v w j old new is one e lays =
    lays_all w 1 old new (omega (arith, one, ap (λ (u : Spot). length u.jobs) is)) (lays_more v w 0 j old old new is (omega (arith, one)) e (subst (λ (k : Kind × Job). LaysJob v.key k.1 old new) (sym e) lays) (λ layer has. has))
