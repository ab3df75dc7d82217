-- A job that starts keeps what holds of the stroke under way. Of jobs only their laws are used.
use Rattle.std.proofs.Common.{◌≡◌, ◌≢◌, ℕ, suc, zero, ◌-◌, ◌<◌, ◌≤◌, Bool, true, false, ◌&&◌, cond, List, [], ◌∷◌, Option, Some, None, is_some, refl, sym, ap, ◌∙◌, arith, eqb, subst}
use Rattle.std.specs.Prelude.{slice_get, slice_set}
use Rattle.std.specs.Option.{unwrap_or}
use Rattle.std.specs.List.{list_any, AllByRecursion}
use Rattle.std.proofs.lemmas.Bool.Decides.{nat_tests}
use Rattle.pixel_core.specs.Rgba.{Rgba, clear}
use Rattle.geom_core.specs.Areas.{Point}
use Rattle.geom_core.specs.Rects.{any_holds}
use Rattle.geom_core.specs.Grid.{Key, key_of}
use Rattle.geom_core.proofs.Tests.{taken, kept, none_left, none_right, no_second}
use Rattle.doc_model.specs.declared.job.Job.{Job}
use Rattle.doc_model.specs.declared.job.Kind.{Kind}
use Rattle.doc_model.specs.declared.job.Kind.TheVariants.{Con, Seq, Bar, Uni}
use Rattle.doc_model.specs.Layers.{at, plain}
use Rattle.doc_model.proofs.LayerLaws.{layer_ext}
use Rattle.doc_model.specs.Jobs.{reads}
use Rattle.doc_model.specs.Shots.{shot_of}
use Rattle.doc_model.specs.Forest.{content}
use Rattle.doc_model.proofs.Shots.{at-shot_of, default-shot_of}
use Rattle.doc_model.proofs.Contents.{content-with_content}
use Rattle.doc_model.proofs.Conflicts.{kept_clear, all_from_at, all_from_all}
use Rattle.doc_model.specs.Strokes.{Jobs, Stroke, one_run, is_uni, runs_at, runs}
use Rattle.machine_model.specs.State.{State, Painter, Slot, Free, Paints, Walks}
use Rattle.machine_model.specs.Painters.{painter_in, runs_in, done, is_done}
use Rattle.machine_model.specs.Guards.{kept_jobs, blocks, excludes, kind_at}
use Rattle.machine_model.specs.Effects.{layer_in}
use Rattle.machine_model.specs.Step.{StartStep}
use Rattle.machine_model.specs.UnderWay.{writes_at, after_jobs, shown, SlotIsStarted, MayOverlap, ShotIsRight, UnderWay, both_uni}
use Rattle.machine_model.proofs.Lists.{all_set, length_above}
use Rattle.machine_model.proofs.SlotPainters.{painter-filled, once-filled}
use Rattle.machine_model.proofs.ShownPixels.{shown_all, shown_same, default-after}
use Rattle.machine_model.proofs.RunsApart.{earlier_apart}

-- nothing of a job that wasn't started runs
pub not_started : (jobs : Jobs) (n : ℕ) (slots : List Slot) → AllByRecursion (SlotIsStarted jobs n) slots → painter_in n slots ≡ None
not_started jobs n [] all = refl
not_started jobs n (Free ∷ slots) all = not_started jobs n slots all.1
not_started jobs n (Walks v ∷ slots) all = not_started jobs n slots all.1
not_started jobs n (Paints v ∷ slots) all = let below : v.index < n = all.0.0 in kept (eqb v.index n) _ _ (grind (arith, nat_tests)) ∙ not_started jobs n slots all.1

-- the kind of a job that runs doesn't block the one that starts
runs_unblocked : (jobs : Jobs) (kind : Kind) (slots : List Slot) (q : ℕ) → list_any (blocks jobs kind) slots ≡ false → runs_in q slots ≡ true → excludes kind (kind_at jobs q) ≡ false
runs_unblocked jobs kind [] q free runs = cc
runs_unblocked jobs kind (Free ∷ slots) q free runs = runs_unblocked jobs kind slots q free runs
runs_unblocked jobs kind (Walks v ∷ slots) q free runs = runs_unblocked jobs kind slots q free runs
runs_unblocked jobs kind (Paints v ∷ slots) q free r = go (λ t. runs_unblocked jobs kind slots q (none_right _ _ free) t) (eqb v.index q) refl r
  where
    go : (runs_in q slots ≡ true → excludes kind (kind_at jobs q) ≡ false) → (b : Bool) → eqb v.index q ≡ b → is_some (cond b (Some v) (painter_in q slots)) ≡ true → excludes kind (kind_at jobs q) ≡ false
    go rest true e r = let same : v.index ≡ q = grind (arith, nat_tests) in ap (λ m. excludes kind (kind_at jobs m)) (sym same) ∙ none_left _ _ free
    go rest false e r = rest r

-- a kind that excludes nothing of a running one may stand in a run with it, and they aren't both uniquely concurrent
beside : (a b : Kind) → excludes a (Some b) ≡ false → (runs a ≡ true) × (runs b ≡ true) × ((is_uni b && is_uni a) ≡ false)
beside Con Con e = (refl, refl, refl)
beside Con Uni e = (refl, refl, refl)
beside Uni Con e = (refl, refl, refl)
beside Con Seq e = cc
beside Con Bar e = cc
beside Uni Seq e = cc
beside Uni Bar e = cc
beside Uni Uni e = cc
beside Seq b e = cc
beside Bar b e = cc

-- where a place has a job, each earlier one has
there_before : {A : Type 0} (xs : List A) (i n : ℕ) (x : A) → i < n → slice_get xs n ≡ Some x → slice_get xs i ≢ None
there_before [] i n x h e f = cc
there_before (y ∷ ys) zero n x h e f = cc
there_before (y ∷ ys) (suc i) zero x h e f = absurd (omega arith)
there_before (y ∷ ys) (suc i) (suc n) x h e f = there_before ys i n x (omega arith) e f

start_overlap : (jobs : Jobs) (n : ℕ) (slots : List Slot) (job : Kind × Job) → slice_get jobs n ≡ Some job → list_any (blocks jobs job.0) slots ≡ false → MayOverlap jobs n slots
    → (i : ℕ) → i < n → runs_in i slots ≡ true → (one_run jobs i n ≡ true) × (both_uni jobs i n ≡ false)
start_overlap jobs n slots job is_next free may i lt r = go (slice_get jobs i) refl
  where
    unblocked : excludes job.0 (kind_at jobs i) ≡ false
    unblocked = runs_unblocked jobs job.0 slots i free r

    go : (o : Option (Kind × Job)) → slice_get jobs i ≡ o → (one_run jobs i n ≡ true) × (both_uni jobs i n ≡ false)
    go None e = absurd (there_before jobs i n job lt is_next e)
    go (Some b) e = (all_from_all i (suc n - i) (runs_at jobs) (λ m x y. each m x (omega arith) (eqb m n) refl (eqb m i) refl), rw (e, is_next) facts.2)
      where
        facts : (runs job.0 ≡ true) × (runs b.0 ≡ true) × ((is_uni b.0 && is_uni job.0) ≡ false)
        facts = beside job.0 b.0 (rw e at unblocked)

        each : (m : ℕ) → i ≤ m → m ≤ n → (t : Bool) → eqb m n ≡ t → (u : Bool) → eqb m i ≡ u → runs_at jobs m ≡ true
        each m x y true f u g = let same : m ≡ n = grind (arith, nat_tests) in rw (same, is_next) facts.0
        each m x y false f true g = let same : m ≡ i = grind (arith, nat_tests) in rw (same, e) facts.1
        each m x y false f false g =
            let above : i < m = grind (arith, nat_tests) in
            let below : m < n = grind (arith, nat_tests) in
            all_from_at i (suc m - i) (runs_at jobs) m (may i m above below r).0 x (omega arith)

more_started : (jobs : Jobs) (n : ℕ) (slots : List Slot) → AllByRecursion (SlotIsStarted jobs n) slots → AllByRecursion (SlotIsStarted jobs (suc n)) slots
more_started jobs n [] all = tt
more_started jobs n (Free ∷ slots) all = (tt, more_started jobs n slots all.1)
more_started jobs n (Walks v ∷ slots) all = (tt, more_started jobs n slots all.1)
more_started jobs n (Paints v ∷ slots) all = ((omega arith, all.0.1, all.0.2), more_started jobs n slots all.1)

same_cond : (b : Bool) {x y z w : Rgba} → (b ≡ true → x ≡ y) → z ≡ w → cond b x z ≡ cond b y w
same_cond true e f = e refl
same_cond false e f = f

-- the stroke under way after the job started
pub way_after_start : (old new : State) (place n : ℕ) → StartStep old place new → old.way ≡ Some n → UnderWay old n → UnderWay new (suc n)
way_after_start old new place n step begun way = subst (λ s. UnderWay s (suc n)) (sym step.new_is) (record {
  stroke = way.stroke;
  at_head = way.at_head;
  base_layer = way.base_layer;
  was = way.was;
  layer = way.layer;
  is = way.is;
  few = length_above jobs n step.job is_next;
  started = all_set (SlotIsStarted jobs (suc n)) old.slots place _ (more_started jobs n old.slots way.started) (omega (arith, same_next), step.job.0, ap (slice_get jobs) same_next ∙ is_next);
  once = once-filled old.slots place w step.free idle way.once;
  overlap = overlap;
  painted = record {
    shots = all_set (ShotIsRight jobs way.base_layer) old.slots place (Paints w) way.painted.shots shot;
    default_pixel = way.painted.default_pixel;
    pixels = λ p. way.painted.pixels p ∙ shown_same jobs way.base_layer (done old.slots) (done slots') n p (λ j h. ap (λ b. any_holds (writes_at jobs j) p && b) (sym (done_other j (key_of p) h))) ∙ sym (unpainted p);
  };
})
  where
    same_stroke : step.stroke ≡ way.stroke
    same_stroke = let e : Some step.stroke ≡ Some way.stroke = sym step.at_head ∙ way.at_head in cc

    jobs : Jobs
    jobs = kept_jobs way.stroke

    same_next : step.next ≡ n
    same_next = let e : Some step.next ≡ Some n = sym step.begun ∙ begun in cc

    is_next : slice_get jobs n ≡ Some step.job
    is_next = ap (slice_get jobs) (sym same_next) ∙ ap (λ (t : Stroke). slice_get (kept_jobs t) step.next) (sym same_stroke) ∙ step.is_next

    w : Painter
    w = record { serial = old.next; index = step.next; job = step.job.1; shot = shot_of (reads step.job.1) (layer_in step.stroke.layer old.present); published = [] }

    slots' : List Slot
    slots' = slice_set old.slots place (Paints w)

    idle : painter_in step.next old.slots ≡ None
    idle = ap (λ q. painter_in q old.slots) same_next ∙ not_started jobs n old.slots way.started

    painters : (q : ℕ) → painter_in q slots' ≡ cond (eqb step.next q) (Some w) (painter_in q old.slots)
    painters q = painter-filled old.slots place w q step.free idle

    done_other : (j : ℕ) (q : Key) → j < n → done slots' j q ≡ done old.slots j q
    done_other j q h = ap (λ o. is_done o q) (painters j ∙ kept (eqb step.next j) _ _ (grind (arith, nat_tests, same_next)))

    done_new : (q : Key) → done slots' n q ≡ false
    done_new q = ap (λ o. is_done o q) (painters n ∙ taken (eqb step.next n) _ _ (grind (arith, nat_tests, same_next)))

    unpainted : (p : Point) → shown jobs way.base_layer (done slots') (suc n) p ≡ shown jobs way.base_layer (done slots') n p
    unpainted p = kept (any_holds (writes_at jobs n) p && done slots' n (key_of p)) _ _ (no_second (any_holds (writes_at jobs n) p) _ (done_new (key_of p)))

    same_layer : layer_in step.stroke.layer old.present ≡ way.layer
    same_layer = ap (λ (t : Stroke). layer_in t.layer old.present) same_stroke
        ∙ ap (λ o. unwrap_or o (plain clear)) (ap (content way.stroke.layer) way.is ∙ content-with_content way.stroke.layer way.layer way.base_layer old.base way.was)

    free : list_any (blocks jobs step.job.0) old.slots ≡ false
    free = ap (λ (t : Stroke). list_any (blocks (kept_jobs t) step.job.0) old.slots) (sym same_stroke) ∙ step.unblocked

    beside_new : (i : ℕ) → i < n → runs_in i old.slots ≡ true → (one_run jobs i n ≡ true) × (both_uni jobs i n ≡ false)
    beside_new = start_overlap jobs n old.slots step.job is_next free way.overlap

    ran : (i : ℕ) → i < n → runs_in i slots' ≡ true → runs_in i old.slots ≡ true
    ran i h r = ap is_some (sym (painters i ∙ kept (eqb step.next i) _ _ (grind (arith, nat_tests, same_next)))) ∙ r

    overlap : MayOverlap jobs (suc n) slots'
    overlap i j a b r = go (eqb j n) refl
      where
        go : (t : Bool) → eqb j n ≡ t → (one_run jobs i j ≡ true) × (both_uni jobs i j ≡ false)
        go true e = let same : j ≡ n = grind (arith, nat_tests) in rw same (beside_new i (omega arith) (ran i (omega arith) r))
        go false e = let below : j < n = grind (arith, nat_tests) in way.overlap i j a below (ran i (omega arith) r)

    -- a job before it that writes a point which it reads has ended
    all_done : (p : Point) → any_holds (reads step.job.1) p ≡ true → (j : ℕ) → j < n → any_holds (writes_at jobs j) p ≡ true → done old.slots j (key_of p) ≡ true
    all_done p held j h there = go (painter_in j old.slots) refl
      where
        go : (o : Option Painter) → painter_in j old.slots ≡ o → is_done (painter_in j old.slots) (key_of p) ≡ true
        go None e = rw e refl
        go (Some v) e =
            let runs_j : runs_in j old.slots ≡ true = rw e refl in
            let may : (one_run jobs j n ≡ true) × (both_uni jobs j n ≡ false) = beside_new j h runs_j in
            let none : any_holds (writes_at jobs j) p ≡ false = earlier_apart jobs j n step.job.0 step.job.1 is_next may.0 may.1 (kept_clear way.stroke.jobs j n h (length_above jobs n step.job is_next)) p held in
            cc

    shot : w.shot ≡ shot_of (reads step.job.1) (after_jobs jobs way.base_layer step.next)
    shot = ap (shot_of (reads step.job.1)) same_layer ∙ layer_ext _ _
        (default-shot_of _ way.layer ∙ same_default ∙ sym (default-shot_of _ (after_jobs jobs way.base_layer step.next)))
        (λ p. at-shot_of (reads step.job.1) way.layer p
        ∙ same_cond (any_holds (reads step.job.1) p) (λ held. way.painted.pixels p ∙ shown_all jobs way.base_layer (done old.slots) n p (all_done p held) ∙ ap (λ m. at (after_jobs jobs way.base_layer m) p) (sym same_next)) same_default
        ∙ sym (at-shot_of (reads step.job.1) (after_jobs jobs way.base_layer step.next) p))
      where
        same_default : way.layer.default_pixel ≡ (after_jobs jobs way.base_layer step.next).default_pixel
        same_default = way.painted.default_pixel ∙ sym (default-after jobs way.base_layer step.next)
