-- Jobs before a barrier, and what jobs write one after another.
use Rattle.std.proofs.Common.{◌≡◌, ℕ, suc, zero, ◌+◌, ◌<◌, ◌≤◌, Bool, true, false, ◌||◌, Some, List, [], ◌∷◌, ◌++◌, length, take, drop, get_or, refl, sym, ap, ◌∙◌, subst, arith, eqb}
use borrow.Author.Differences.{ints}
use Rattle.std.specs.Prelude.{All, slice_get, ℤ, pos, ◌+ℤ◌, ◌-ℤ◌, nat_abs}
use Rattle.std.specs.Int.{int_max, int_min}
use Rattle.std.specs.List.{AllByRecursion}
use Rattle.std.proofs.lemmas.Bool.Decides.{nat_tests}
use Rattle.std.proofs.lemmas.List.{drop_more, drop_all, length-take, take_all}
use Rattle.std.proofs.lemmas.List.Elements.{All-drop, All-get_or, All-more, All-nil, All-take, All-weaker}
use Rattle.std.proofs.lemmas.Option.{get_or_from_slice_get}
use Rattle.geom_core.specs.Areas.{Area, holds}
use Rattle.geom_core.specs.Grid.{tile}
use Rattle.geom_core.specs.Keys.{IsWorldKey}
use Rattle.geom_core.specs.Overlaps.{bound}
use Rattle.geom_core.specs.Rects.{any_holds}
use Rattle.geom_core.specs.Laws.{AllIn, IsLeastAround}
use Rattle.geom_core.proofs.Bounds.{least_bound}
use Rattle.geom_core.proofs.Tests.{or-false}
use Rattle.doc_model.specs.declared.canvas.Patch.{Patch}
use Rattle.doc_model.specs.declared.job.Job.{Job}
use Rattle.doc_model.specs.declared.job.Kind.{Kind}
use Rattle.doc_model.specs.Jobs.{writes}
use Rattle.doc_model.specs.Lawful.{within_limits}
use Rattle.doc_model.specs.Strokes.{Jobs}
use Rattle.job_core.specs.Points.{Spot, spot, is_point_op, is_within, IsPointJob, IsPointWork, IsRun}
use Rattle.job_core.proofs.Runs.{front_taken, front_all}
use Rattle.job_core.proofs.Values.{HasPoints}
use Rattle.desk_state.proofs.Meeting.{written_some}
use Rattle.desk_steps.specs.Archives.{Archive, with_painted}
use Rattle.update_queue.specs.Waiting.{Waiting, waiting}
use Rattle.machine_model.specs.Effects.{updates_with_all, writes_of}
use Rattle.machine_model.specs.Guards.{is_bar}
use Rattle.desk_events.specs.declared.small_jobs.Laid.{Laid}
use Rattle.desk_events.specs.SmallJobs.{IsLeastRound, NoBarBehind, LaysRun, WritesWithin}

-- one more job that is none
pub no_bar_more : (jobs : Jobs) (i : ℕ) (x : Kind × Job) → x ≡ get_or jobs i x → is_bar x.0 ≡ false → ((k : ℕ) (j : Kind × Job) → suc k < i → slice_get jobs (suc k) ≡ Some j → is_bar j.0 ≡ false)
    → (k : ℕ) (j : Kind × Job) → suc k < i + 1 → slice_get jobs (suc k) ≡ Some j → is_bar j.0 ≡ false
no_bar_more jobs i x at none so_far k j h e = go (eqb (suc k) i) refl
  where
    here : suc k ≡ i → x ≡ j
    here same = at ∙ ap (λ m. get_or jobs m x) (sym same) ∙ get_or_from_slice_get jobs (suc k) j x e

    go : (b : Bool) → eqb (suc k) i ≡ b → is_bar j.0 ≡ false
    go true t = let same : suc k ≡ i = grind (arith, nat_tests) in ap (λ (y : Kind × Job). is_bar y.0) (sym (here same)) ∙ none
    go false t = let below : suc k < i = grind (arith, nat_tests) in so_far k j below e

pub updates_with_all-append : (canvas : Area) (g : ℕ) (xs ys : List Area) (patches : List Patch) → updates_with_all canvas g (xs ++ ys) patches ≡ updates_with_all canvas g ys (updates_with_all canvas g xs patches)
updates_with_all-append canvas g [] ys patches = refl
updates_with_all-append canvas g (x ∷ xs) ys patches = updates_with_all-append canvas g xs ys _

-- one more job's writes wait
pub widened_more : (jobs : Jobs) (i g : ℕ) (x : Kind × Job) (u new whole : Waiting) → i < length jobs → x ≡ get_or jobs i x → new ≡ waiting u.canvas (updates_with_all u.canvas g (writes x.1) u.patches)
    → waiting u.canvas (updates_with_all u.canvas g (writes_of (drop i jobs)) u.patches) ≡ whole → waiting new.canvas (updates_with_all new.canvas g (writes_of (drop (i + 1) jobs)) new.patches) ≡ whole
widened_more jobs i g x u new whole h at is so_far =
    ap (λ (v : Waiting). waiting v.canvas (updates_with_all v.canvas g (writes_of (drop (i + 1) jobs)) v.patches)) is
    ∙ ap (waiting u.canvas) (sym (updates_with_all-append u.canvas g (writes x.1) (writes_of (drop (i + 1) jobs)) u.patches) ∙ ap (λ js. updates_with_all u.canvas g (writes_of js) u.patches) (sym front))
    ∙ so_far
  where
    front : drop i jobs ≡ x ∷ drop (i + 1) jobs
    front = drop_more jobs i x h ∙ ap (λ y. y ∷ drop (i + 1) jobs) (sym at)

-- all of them do
pub widened_all : (jobs : Jobs) (i g : ℕ) (u whole : Waiting) → length jobs ≤ i → waiting u.canvas (updates_with_all u.canvas g (writes_of (drop i jobs)) u.patches) ≡ whole → u ≡ whole
widened_all jobs i g u whole h so_far = ap (λ js. waiting u.canvas (updates_with_all u.canvas g (writes_of js) u.patches)) (sym (drop_all i jobs h)) ∙ so_far

-- ---- the least rectangle round what jobs write

-- the rectangle has what the first of the jobs write, and lies in each that has what all of them write
pub record IsRoundFirst (jobs : Jobs) (i : ℕ) (b : Area) : Type 0 where
  pub within : All (λ (j : Kind × Job). WritesWithin b j.1) (take i jobs)
  pub least : (a : Area) → All (λ (j : Kind × Job). WritesWithin a j.1) jobs → AllIn b a
  pub sides : HasPoints b

side_more : (a b : ℤ) (n m : ℕ) → 1 ≤ n → 1 ≤ nat_abs (int_max (a +ℤ pos n) (b +ℤ pos m) -ℤ int_min a b)
side_more a b n m h = grind (arith, ints)

module _ (jobs : Jobs) (i : ℕ) (x : Kind × Job) (b : Area) (h : i < length jobs) (at : x ≡ get_or jobs i x) (fits : All (λ (j : Kind × Job). within_limits j.1 ≡ true) jobs) (written : writes x.1 ≡ b ∷ []) where
  own_sides : HasPoints b
  own_sides =
      let own = subst (λ (y : Kind × Job). within_limits y.1 ≡ true) (sym at) (All-get_or (λ (j : Kind × Job). within_limits j.1 ≡ true) jobs i x h fits) in
      (subst (AllByRecursion HasPoints) written (written_some x.1 own)).0

  own_least : (a : Area) → All (λ (j : Kind × Job). WritesWithin a j.1) jobs → AllIn b a
  own_least a all p e =
      subst (λ (y : Kind × Job). WritesWithin a y.1) (sym at) (All-get_or (λ (j : Kind × Job). WritesWithin a j.1) jobs i x h all) p
      (ap (λ (rects : List Area). any_holds rects p) written ∙ or-false (holds b p) ∙ e)

  -- that of one job
  pub round_one : IsRoundFirst jobs 0 b
  round_one = record { within = All-nil (λ (j : Kind × Job). WritesWithin b j.1); least = own_least; sides = own_sides }

  -- one more job's
  pub round_more : (a c : Area) → c ≡ bound a b → IsRoundFirst jobs i a → IsRoundFirst jobs (i + 1) c
  round_more a c is r = subst (IsRoundFirst jobs (i + 1)) (sym is) (record {
    within = All-more (λ (j : Kind × Job). WritesWithin (bound a b) j.1) jobs i x h
        (All-weaker (λ (j : Kind × Job). WritesWithin a j.1) (λ (j : Kind × Job). WritesWithin (bound a b) j.1) (λ j w p e. l.first p (w p e)) (take i jobs) r.within)
        (subst (λ (y : Kind × Job). WritesWithin (bound a b) y.1) at own);
    least = λ d all. l.least d (r.least d all) (own_least d all);
    sides = (side_more a.x b.x a.w b.w r.sides.0, side_more a.y b.y a.h b.h r.sides.1);
  })
    where
      l : IsLeastAround a b (bound a b)
      l = least_bound a b r.sides.0 r.sides.1 own_sides.0 own_sides.1

      own : WritesWithin (bound a b) x.1
      own p e = l.second p (sym (or-false (holds b p)) ∙ ap (λ (rects : List Area). any_holds rects p) (sym written) ∙ e)

-- that of all
pub round_all : (jobs : Jobs) (i : ℕ) (b : Area) → length jobs ≤ i → IsRoundFirst jobs i b → IsLeastRound jobs b
round_all jobs i b h r = record { within = subst (λ (js : Jobs). All (λ (j : Kind × Job). WritesWithin b j.1) js) (take_all i jobs h) r.within; least = r.least }

-- jobs of a run are point operations
pub are_points : (jobs front : Jobs) (laid : Laid) (old new : Archive) → front ≡ take laid.count jobs → LaysRun jobs laid old new → All (λ (j : Kind × Job). is_point_op j.1 ≡ true) front
are_points jobs front laid old new is run = subst (λ (js : Jobs). All (λ (j : Kind × Job). is_point_op j.1 ≡ true) js) (sym is) (All-weaker (λ (j : Kind × Job). IsPointJob laid.key j.1) (λ (j : Kind × Job). is_point_op j.1 ≡ true) (λ j point. point.point_op) (take laid.count jobs) run.each)

pub front_some : (jobs front : Jobs) (laid : Laid) (old new : Archive) → front ≡ take laid.count jobs → LaysRun jobs laid old new → 1 ≤ length front
front_some jobs front laid old new is run = omega (arith, run.some, run.few, ap length is, length-take laid.count jobs)

-- ---- the front of a list

module _ {A : Type 0} where
  front_there : (n : ℕ) (xs : List A) (i : ℕ) (x : A) → slice_get (take n xs) i ≡ Some x → (i < n) × (slice_get xs i ≡ Some x)
  front_there zero xs i x h = cc
  front_there (suc n) [] i x h = cc
  front_there (suc n) (y ∷ xs) zero x h = (omega arith, h)
  front_there (suc n) (y ∷ xs) (suc i) x h = let more = front_there n xs i x h in (omega (arith, more.0), more.1)

  -- an item of the front is one of the list
  pub front_get : (m : ℕ) (xs : List A) (i : ℕ) (x : A) → slice_get (take m xs) i ≡ Some x → slice_get xs i ≡ Some x
  front_get m xs i x h = (front_there m xs i x h).1

-- the jobs up to a barrier
pub front_clear : (jobs front : Jobs) (n : ℕ) → front ≡ take n jobs → ((i : ℕ) (j : Kind × Job) → suc i < n → slice_get jobs (suc i) ≡ Some j → is_bar j.0 ≡ false) → NoBarBehind front
front_clear jobs front n is none i j h = let there = front_there n jobs (suc i) j (ap (λ (js : Jobs). slice_get js (suc i)) (sym is) ∙ h) in none i j there.0 there.1

pub front_is : (jobs front : Jobs) (n : ℕ) → front ≡ take n jobs → length front ≡ n → front ≡ take (length front) jobs
front_is jobs front n is long = is ∙ ap (λ m. take m jobs) (sym long)

pub front_passes : (P : Kind × Job → Type 0) (jobs front : Jobs) (n m : ℕ) → front ≡ take n (drop m jobs) → All P jobs → All P front
front_passes P jobs front n m is all = subst (All P) (sym is) (All-take P n (drop m jobs) (All-drop P m jobs all))

-- what a run lays
pub lays_run : (jobs : Jobs) (w : Spot) (laid : Laid) (old new : Archive) → IsRun jobs w → laid.count ≡ length w.jobs → laid.key ≡ w.key → IsPointWork w → new ≡ with_painted old.way w old → LaysRun jobs laid old new
lays_run jobs w laid old new run count key known is = record {
  some = omega (arith, run.some, count);
  few = omega (arith, count, ap length first, length-take laid.count jobs);
  world = subst IsWorldKey (sym key) known.world;
  each = subst (All (λ (j : Kind × Job). IsPointJob laid.key j.1)) first (subst (λ k. All (λ (j : Kind × Job). IsPointJob k j.1) w.jobs) (sym key) known.each);
  within = subst (All (λ (j : Kind × Job). is_within (tile laid.key) j.1 ≡ true)) first (subst (λ k. All (λ (j : Kind × Job). is_within (tile k) j.1 ≡ true) w.jobs) (sym key) within);
  new_is = is ∙ ap (λ v. with_painted old.way v old) same;
}
  where
    first : w.jobs ≡ take laid.count jobs
    first = run.front ∙ front_taken (λ (j : Kind × Job). is_within (tile w.key) j.1) jobs ∙ ap (λ (k : ℕ). take k jobs) (ap length (sym run.front) ∙ sym count)

    within : All (λ (j : Kind × Job). is_within (tile w.key) j.1 ≡ true) w.jobs
    within = subst (All (λ (j : Kind × Job). is_within (tile w.key) j.1 ≡ true)) (sym run.front) (front_all (λ (j : Kind × Job). is_within (tile w.key) j.1) jobs)

    same : w ≡ spot (take laid.count jobs) laid.key
    same = λ i. spot (first i) (sym key i)
