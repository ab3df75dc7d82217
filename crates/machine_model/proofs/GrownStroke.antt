-- A stroke under way that gets one more job stays as it is.
use Rattle.std.proofs.Common.{◌≡◌, ℕ, suc, zero, ◌-◌, ◌<◌, ◌≤◌, Bool, true, false, ◌&&◌, cond, List, [], ◌∷◌, ◌++◌, length, refl, sym, ap, ◌∙◌, arith}
use Rattle.std.specs.Prelude.{slice_get}
use Rattle.std.specs.List.{AllByRecursion}
use Rattle.geom_core.specs.Areas.{Point}
use Rattle.geom_core.specs.Rects.{any_holds}
use Rattle.geom_core.specs.Grid.{Key, key_of}
use Rattle.doc_model.specs.declared.job.Job.{Job}
use Rattle.doc_model.specs.declared.job.Kind.{Kind}
use Rattle.doc_model.specs.Layers.{Layer, at}
use Rattle.doc_model.specs.Jobs.{apply, reads}
use Rattle.doc_model.specs.Shots.{shot_of}
use Rattle.doc_model.specs.Strokes.{Jobs, one_run, runs_at, passes, runs}
use Rattle.doc_model.proofs.Conflicts.{all_from_same}
use Rattle.machine_model.specs.State.{Slot, Free, Paints, Walks}
use Rattle.machine_model.specs.UnderWay.{SlotIsStarted, MayOverlap, both_uni, after_jobs, writes_at, shown, ShotIsRight, PixelsAre}
use Rattle.machine_model.specs.Painters.{done}

-- more items behind change none in front
pub get_front : {A : Type 0} (xs ys : List A) (i : ℕ) → i < length xs → slice_get (xs ++ ys) i ≡ slice_get xs i
get_front [] ys i h = absurd (omega arith)
get_front (x ∷ xs) ys zero h = refl
get_front (x ∷ xs) ys (suc i) h = get_front xs ys i (omega arith)

-- a list is no shorter with more behind
pub length_front : {A : Type 0} (xs ys : List A) → length xs ≤ length (xs ++ ys)
length_front [] ys = omega arith
length_front (x ∷ xs) ys = let h : length xs ≤ length (xs ++ ys) = length_front xs ys in omega arith

-- started jobs stay started
pub started_grown : (jobs rest : Jobs) (n : ℕ) (slots : List Slot) → n ≤ length jobs → AllByRecursion (SlotIsStarted jobs n) slots → AllByRecursion (SlotIsStarted (jobs ++ rest) n) slots
started_grown jobs rest n [] l all = tt
started_grown jobs rest n (Free ∷ slots) l all = (tt, started_grown jobs rest n slots l all.1)
started_grown jobs rest n (Walks w ∷ slots) l all = (tt, started_grown jobs rest n slots l all.1)
started_grown jobs rest n (Paints w ∷ slots) l all =
    let below : w.index < n = all.0.0 in
    ((below, all.0.1, get_front jobs rest w.index (omega arith) ∙ all.0.2), started_grown jobs rest n slots l all.1)

run_grown : (jobs rest : Jobs) (i j : ℕ) → i < j → j < length jobs → one_run (jobs ++ rest) i j ≡ one_run jobs i j
run_grown jobs rest i j h l = all_from_same i (suc j - i) (runs_at (jobs ++ rest)) (runs_at jobs) (λ k a b. ap (λ o. passes o (λ (j : Kind × Job). runs j.0)) (get_front jobs rest k (omega arith)))

uni_grown : (jobs rest : Jobs) (i j : ℕ) → i < j → j < length jobs → both_uni (jobs ++ rest) i j ≡ both_uni jobs i j
uni_grown jobs rest i j h l = rw (get_front jobs rest i (omega arith), get_front jobs rest j l) refl

-- jobs that may be at work together still may
pub overlap_grown : (jobs rest : Jobs) (n : ℕ) (slots : List Slot) → n ≤ length jobs → MayOverlap jobs n slots → MayOverlap (jobs ++ rest) n slots
overlap_grown jobs rest n slots l may i j a b r =
    let old : (one_run jobs i j ≡ true) × (both_uni jobs i j ≡ false) = may i j a b r in
    (run_grown jobs rest i j a (omega arith) ∙ old.0, uni_grown jobs rest i j a (omega arith) ∙ old.1)

after_grown : (jobs rest : Jobs) (layer : Layer) (i : ℕ) → i ≤ length jobs → after_jobs (jobs ++ rest) layer i ≡ after_jobs jobs layer i
after_grown jobs rest layer zero l = refl
after_grown [] rest layer (suc i) l = absurd (omega arith)
after_grown (k ∷ jobs) rest layer (suc i) l = after_grown jobs rest (apply k.1 layer) i (omega arith)

shots_grown : (jobs rest : Jobs) (layer : Layer) (n : ℕ) (slots : List Slot) → n ≤ length jobs → AllByRecursion (SlotIsStarted jobs n) slots → AllByRecursion (ShotIsRight jobs layer) slots → AllByRecursion (ShotIsRight (jobs ++ rest) layer) slots
shots_grown jobs rest layer n [] l started all = tt
shots_grown jobs rest layer n (Free ∷ slots) l started all = (tt, shots_grown jobs rest layer n slots l started.1 all.1)
shots_grown jobs rest layer n (Walks w ∷ slots) l started all = (tt, shots_grown jobs rest layer n slots l started.1 all.1)
shots_grown jobs rest layer n (Paints w ∷ slots) l started all =
    let below : w.index < n = started.0.0 in
    (all.0 ∙ ap (shot_of (reads w.job)) (sym (after_grown jobs rest layer w.index (omega arith))), shots_grown jobs rest layer n slots l started.1 all.1)

shown_grown : (jobs rest : Jobs) (layer : Layer) (d : ℕ → Key → Bool) (n : ℕ) (p : Point) → n ≤ length jobs → shown (jobs ++ rest) layer d n p ≡ shown jobs layer d n p
shown_grown jobs rest layer d zero p l = refl
shown_grown jobs rest layer d (suc n) p l = λ i.
    cond (any_holds (same i) p && d n (key_of p)) (at (after_grown jobs rest layer (suc n) l i) p) (shown_grown jobs rest layer d n p (omega arith) i)
  where
    same : writes_at (jobs ++ rest) n ≡ writes_at jobs n
    same = rw (get_front jobs rest n (omega arith)) refl

-- shots and pixels stay right
pub pixels_grown : (jobs rest : Jobs) (base_layer layer : Layer) (n : ℕ) (slots : List Slot) → n ≤ length jobs → AllByRecursion (SlotIsStarted jobs n) slots → PixelsAre jobs base_layer layer n slots → PixelsAre (jobs ++ rest) base_layer layer n slots
pixels_grown jobs rest base_layer layer n slots l started right = record {
  shots = shots_grown jobs rest base_layer n slots l started right.shots;
  default_pixel = right.default_pixel;
  pixels = λ p. right.pixels p ∙ sym (shown_grown jobs rest base_layer (done slots) n p l);
}
