-- What stands at a point while a stroke is under way. Of jobs only their laws are used.
use Rattle.std.proofs.Common.{◌≡◌, ℕ, suc, zero, ◌<◌, Bool, true, false, ◌&&◌, [], ◌∷◌, Some, refl, sym, ap, ◌∙◌, arith, eqb}
use Rattle.std.specs.Prelude.{slice_get}
use Rattle.std.proofs.lemmas.Bool.Decides.{nat_tests}
use Rattle.geom_core.specs.Areas.{Point}
use Rattle.geom_core.specs.Rects.{any_holds}
use Rattle.geom_core.specs.Grid.{Key, key_of}
use Rattle.geom_core.proofs.Tests.{taken, kept, both_true, no_first}
use Rattle.doc_model.specs.declared.job.Job.{Job}
use Rattle.doc_model.specs.declared.job.Kind.{Kind}
use Rattle.doc_model.specs.Layers.{Layer, at}
use Rattle.doc_model.specs.Jobs.{apply}
use Rattle.doc_model.proofs.JobLaws.{laws_of_jobs}
use Rattle.doc_model.specs.Strokes.{Jobs}
use Rattle.machine_model.specs.UnderWay.{after_jobs, writes_at, shown}

-- outside the writes of a job the layer after it is the one before it
after_outside : (jobs : Jobs) (layer : Layer) (n : ℕ) (p : Point) → any_holds (writes_at jobs n) p ≡ false → at (after_jobs jobs layer (suc n)) p ≡ at (after_jobs jobs layer n) p
after_outside [] layer zero p out = refl
after_outside [] layer (suc n) p out = refl
after_outside (k ∷ jobs) layer zero p out = laws_of_jobs.outside k.1 layer p out
after_outside (k ∷ jobs) layer (suc n) p out = after_outside jobs (apply k.1 layer) n p out

-- after one more job
pub after_suc : (jobs : Jobs) (layer : Layer) (n : ℕ) (k : Kind × Job) → slice_get jobs n ≡ Some k → after_jobs jobs layer (suc n) ≡ apply k.1 (after_jobs jobs layer n)
after_suc [] layer n k e = cc
after_suc (j ∷ jobs) layer zero k e = ap (λ i. apply i layer) (some_job j k e)
  where
    some_job : (a b : Kind × Job) → Some a ≡ Some b → a.1 ≡ b.1
    some_job a b h = cc
after_suc (j ∷ jobs) layer (suc n) k e = after_suc jobs (apply j.1 layer) n k e

-- jobs leave the default pixel
pub default-after : (jobs : Jobs) (layer : Layer) (n : ℕ) → (after_jobs jobs layer n).default_pixel ≡ layer.default_pixel
default-after jobs layer zero = refl
default-after [] layer (suc n) = refl
default-after (k ∷ jobs) layer (suc n) = default-after jobs (apply k.1 layer) n ∙ laws_of_jobs.default_pixel k.1 layer

-- where each started job that holds the point has painted it, the value after all of them stands there
pub shown_all : (jobs : Jobs) (layer : Layer) (d : ℕ → Key → Bool) (n : ℕ) (p : Point) → ((j : ℕ) → j < n → any_holds (writes_at jobs j) p ≡ true → d j (key_of p) ≡ true) → shown jobs layer d n p ≡ at (after_jobs jobs layer n) p
shown_all jobs layer d zero p all = refl
shown_all jobs layer d (suc n) p all = go (shown_all jobs layer d n p (λ j h. all j (omega arith))) (any_holds (writes_at jobs n) p) refl
  where
    go : shown jobs layer d n p ≡ at (after_jobs jobs layer n) p → (b : Bool) → any_holds (writes_at jobs n) p ≡ b → shown jobs layer d (suc n) p ≡ at (after_jobs jobs layer (suc n)) p
    go rest true e = taken _ _ _ (both_true _ _ e (all n (omega arith) e))
    go rest false e = kept _ _ _ (no_first _ _ e) ∙ rest ∙ sym (after_outside jobs layer n p e)

-- where the job i has painted a point that no later started job holds, the value after it stands there
pub shown_last : (jobs : Jobs) (layer : Layer) (d : ℕ → Key → Bool) (n i : ℕ) (p : Point) → i < n → any_holds (writes_at jobs i) p ≡ true → d i (key_of p) ≡ true
    → ((j : ℕ) → i < j → j < n → any_holds (writes_at jobs j) p ≡ false) → shown jobs layer d n p ≡ at (after_jobs jobs layer (suc i)) p
shown_last jobs layer d zero i p lt h painted later = absurd (omega arith)
shown_last jobs layer d (suc n) i p lt h painted later = go (λ l. shown_last jobs layer d n i p l h painted (λ j a b. later j a (omega arith))) (eqb i n) refl
  where
    here : (k : ℕ) → i ≡ k → shown jobs layer d (suc k) p ≡ at (after_jobs jobs layer (suc i)) p
    here k e = rw (← e) (taken _ _ _ (both_true _ _ h painted))

    go : (i < n → shown jobs layer d n p ≡ at (after_jobs jobs layer (suc i)) p) → (b : Bool) → eqb i n ≡ b → shown jobs layer d (suc n) p ≡ at (after_jobs jobs layer (suc i)) p
    go rest true e = here n (grind (arith, nat_tests))
    go rest false e = let below : i < n = grind (arith, nat_tests) in kept _ _ _ (no_first _ _ (later n below (omega arith))) ∙ rest below

-- what stands at a point depends on which of the jobs that hold it have painted it
pub shown_same : (jobs : Jobs) (layer : Layer) (d d' : ℕ → Key → Bool) (n : ℕ) (p : Point) → ((j : ℕ) → j < n → (any_holds (writes_at jobs j) p && d j (key_of p)) ≡ (any_holds (writes_at jobs j) p && d' j (key_of p)))
    → shown jobs layer d n p ≡ shown jobs layer d' n p
shown_same jobs layer d d' zero p same = refl
shown_same jobs layer d d' (suc n) p same = rw (same n (omega arith), shown_same jobs layer d d' n p (λ j h. same j (omega arith))) refl
