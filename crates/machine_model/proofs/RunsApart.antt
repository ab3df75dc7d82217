-- Jobs that may be at work together disturb each other at no point.
use Rattle.std.proofs.Common.{◌≡◌, ℕ, Bool, true, false, ◌&&◌, not, Option, Some, None, refl, inl, inr}
use Rattle.std.specs.Prelude.{slice_get}
use Rattle.geom_core.specs.Areas.{Point}
use Rattle.geom_core.specs.Rects.{any_holds}
use Rattle.geom_core.proofs.Tests.{none_left, true_or_false}
use Rattle.doc_model.specs.declared.job.Job.{Job}
use Rattle.doc_model.specs.declared.job.Kind.{Kind}
use Rattle.doc_model.specs.Jobs.{reads, writes}
use Rattle.doc_model.specs.Strokes.{Jobs, conflicting, one_run, is_uni, disturb}
use Rattle.doc_model.proofs.Conflicts.{apart_unless_meet}
use Rattle.doc_model.proofs.JobLaws.{laws_of_jobs}
use Rattle.machine_model.specs.UnderWay.{both_uni, writes_at}

-- jobs of one run that aren't both uniquely concurrent and don't conflict
pub no_disturb : (jobs : Jobs) (i j : ℕ) (a b : Kind × Job) → slice_get jobs i ≡ Some a → slice_get jobs j ≡ Some b → one_run jobs i j ≡ true → both_uni jobs i j ≡ false → conflicting jobs i j ≡ false → disturb a.1 b.1 ≡ false
no_disturb jobs i j a b e f run uni clear = go (disturb a.1 b.1) (is_uni a.0 && is_uni b.0) fact (rw (e, f) at uni)
  where
    fact : (disturb a.1 b.1 && not (is_uni a.0 && is_uni b.0)) ≡ false
    fact = let c : (one_run jobs i j && (disturb a.1 b.1 && not (is_uni a.0 && is_uni b.0))) ≡ false = rw (e, f) at clear in (rw run at c)

    go : (d u : Bool) → (d && not u) ≡ false → u ≡ false → d ≡ false
    go true u h k = let t : true ≡ false = rw k at h in cc
    go false u h k = refl

-- of two such jobs the later one writes nothing that the earlier one reads or writes
pub later_apart : (jobs : Jobs) (i j : ℕ) (k : Kind) (job : Job) → slice_get jobs i ≡ Some (k, job) → one_run jobs i j ≡ true → both_uni jobs i j ≡ false → conflicting jobs i j ≡ false
    → (p : Point) → any_holds (writes job) p ≡ true → any_holds (writes_at jobs j) p ≡ false
later_apart jobs i j k job e run uni clear p held = go (slice_get jobs j) refl
  where
    go : (o : Option (Kind × Job)) → slice_get jobs j ≡ o → any_holds (writes_at jobs j) p ≡ false
    go None f = rw f refl
    go (Some b) f = rw f (elim (true_or_false (any_holds (writes b.1) p)) [
      | inl h ↦ (let r : any_holds (reads b.1) p ≡ true = laws_of_jobs.within b.1 p h in let n : any_holds (reads b.1) p ≡ false = apart_unless_meet (writes job) (reads b.1) (none_left _ _ (no_disturb jobs i j (k, job) b e f run uni clear)) p held in cc)
      | inr h ↦ h
    ])

-- and the earlier one writes nothing that the later one reads
pub earlier_apart : (jobs : Jobs) (i j : ℕ) (k : Kind) (job : Job) → slice_get jobs j ≡ Some (k, job) → one_run jobs i j ≡ true → both_uni jobs i j ≡ false → conflicting jobs i j ≡ false
    → (p : Point) → any_holds (reads job) p ≡ true → any_holds (writes_at jobs i) p ≡ false
earlier_apart jobs i j k job e run uni clear p held = go (slice_get jobs i) refl
  where
    go : (o : Option (Kind × Job)) → slice_get jobs i ≡ o → any_holds (writes_at jobs i) p ≡ false
    go None f = rw f refl
    go (Some a) f = rw f (elim (true_or_false (any_holds (writes a.1) p)) [
      | inl h ↦ (let n : any_holds (reads job) p ≡ false = apart_unless_meet (writes a.1) (reads job) (none_left _ _ (no_disturb jobs i j a (k, job) f e run uni clear)) p h in cc)
      | inr h ↦ h
    ])
