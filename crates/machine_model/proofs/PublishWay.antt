-- A job that publishes a tile keeps what holds of the stroke under way. Of jobs only their laws are used.
use Rattle.machine_model.proofs.Choices.{same_and}
use Rattle.std.proofs.Common.{◌≡◌, ℕ, suc, ◌<◌, Bool, true, false, ◌&&◌, ◌||◌, cond, List, ◌∷◌, Some, refl, sym, ap, ◌∙◌, arith, eqb, subst}
use Rattle.std.specs.Prelude.{slice_get, slice_set}
use Rattle.std.proofs.lemmas.Bool.Decides.{nat_tests}
use Rattle.geom_core.specs.Areas.{Point}
use Rattle.geom_core.specs.Rects.{any_holds}
use Rattle.geom_core.specs.Grid.{Key, key_of, same_key}
use Rattle.geom_core.proofs.Tests.{taken, kept, and_left, and_right}
use Rattle.doc_model.specs.declared.job.Job.{Job}
use Rattle.doc_model.specs.declared.job.Kind.{Kind}
use Rattle.doc_model.specs.Layers.{Layer, at}
use Rattle.doc_model.specs.Jobs.{reads, writes, apply}
use Rattle.doc_model.specs.Shots.{shot_of, published, in_tile}
use Rattle.doc_model.specs.Forest.{with_content}
use Rattle.doc_model.specs.Adjusting.{adjusted}
use Rattle.doc_model.proofs.JobLaws.{laws_of_jobs}
use Rattle.doc_model.proofs.Shots.{shot_same, at-published, default-published}
use Rattle.doc_model.proofs.Contents.{adjusted-with_content}
use Rattle.doc_model.proofs.Conflicts.{kept_clear}
use Rattle.doc_model.specs.Strokes.{Jobs, Stroke, one_run}
use Rattle.machine_model.specs.State.{State, Painter, Slot, Paints}
use Rattle.machine_model.specs.Painters.{painter_in, done, is_done}
use Rattle.machine_model.specs.Guards.{kept_jobs}
use Rattle.machine_model.specs.Step.{PublishStep}
use Rattle.machine_model.specs.UnderWay.{after_jobs, writes_at, shown, Once, SlotIsStarted, ShotIsRight, PixelsAre, UnderWay, both_uni}
use Rattle.machine_model.proofs.Lists.{all_set, all_get}
use Rattle.machine_model.proofs.SlotPainters.{painter_found, painter-set, once-set, runs-set, runs_found}
use Rattle.machine_model.proofs.ShownPixels.{after_suc, shown_last, shown_same}
use Rattle.machine_model.proofs.RunsApart.{later_apart}

-- the writes of the job with an index
writes_there : (jobs : Jobs) (i : ℕ) (k : Kind) (job : Job) → slice_get jobs i ≡ Some (k, job) → writes_at jobs i ≡ writes job
writes_there jobs i k job e = rw e refl

-- what a job makes of its shot at a point of its writes is what the list order gives there
value_on_shot : (jobs : Jobs) (layer : Layer) (w : Painter) (k : Kind) (p : Point) → slice_get jobs w.index ≡ Some (k, w.job) → w.shot ≡ shot_of (reads w.job) (after_jobs jobs layer w.index)
    → any_holds (writes w.job) p ≡ true → at (apply w.job w.shot) p ≡ at (after_jobs jobs layer (suc w.index)) p
value_on_shot jobs layer w k p e shot h =
    ap (λ l. at (apply w.job l) p) shot
    ∙ laws_of_jobs.inside w.job _ _ p (shot_same (reads w.job) (after_jobs jobs layer w.index)) h
    ∙ ap (λ l. at l p) (sym (after_suc jobs layer w.index (k, w.job) e))

not_this : (a t : Bool) (rest : Bool) → (a && t) ≡ false → a ≡ true → (t || rest) ≡ rest
not_this true true rest e h = cc
not_this true false rest e h = refl
not_this false t rest e h = cc

-- a job that publishes a tile keeps the pixels right, where no later started job writes a point of its writes
published_right : (jobs : Jobs) (base_layer layer : Layer) (n : ℕ) (slots : List Slot) (s : ℕ) (w : Painter) (key : Key) (k : Kind)
    → slice_get slots s ≡ Some (Paints w) → slice_get jobs w.index ≡ Some (k, w.job) → w.index < n → Once slots
    → ((j : ℕ) → w.index < j → j < n → (p : Point) → any_holds (writes w.job) p ≡ true → any_holds (writes_at jobs j) p ≡ false)
    → PixelsAre jobs base_layer layer n slots
    → PixelsAre jobs base_layer (published w.job w.shot key layer) n (slice_set slots s (Paints (record w { published = key ∷ w.published })))
published_right jobs base_layer layer n slots s w key k stands in_jobs below once later right = record {
  shots = all_set (ShotIsRight jobs base_layer) slots s (Paints w') right.shots shot_right;
  default_pixel = default-published w.job w.shot key layer ∙ right.default_pixel;
  pixels = λ p. at-published w.job w.shot key layer p ∙ go p (any_holds (writes w.job) p && in_tile key p) refl;
}
  where
    w' : Painter
    w' = record w { published = key ∷ w.published }

    shot_right : w.shot ≡ shot_of (reads w.job) (after_jobs jobs base_layer w.index)
    shot_right = all_get (ShotIsRight jobs base_layer) slots s (Paints w) right.shots stands

    slots' : List Slot
    slots' = slice_set slots s (Paints w')

    painters : (q : ℕ) → painter_in q slots' ≡ cond (eqb w.index q) (Some w') (painter_in q slots)
    painters q = painter-set slots s w w' q stands refl once

    done_here : (q : Key) → done slots' w.index q ≡ (same_key q key || done slots w.index q)
    done_here q = ap (λ o. is_done o q) (painters w.index ∙ taken (eqb w.index w.index) _ _ (grind (arith, nat_tests)))
        ∙ ap (λ o. same_key q key || is_done o q) (sym (painter_found slots s w stands once))

    done_there : (j : ℕ) (q : Key) → eqb w.index j ≡ false → done slots' j q ≡ done slots j q
    done_there j q e = ap (λ o. is_done o q) (painters j ∙ kept (eqb w.index j) _ _ e)

    go : (p : Point) (b : Bool) → (any_holds (writes w.job) p && in_tile key p) ≡ b → cond b (at (apply w.job w.shot) p) (at layer p) ≡ shown jobs base_layer (done slots') n p
    go p true e =
        let held : any_holds (writes w.job) p ≡ true = and_left _ _ e in
        let hit : same_key (key_of p) key ≡ true = and_right _ _ e in
        value_on_shot jobs base_layer w k p in_jobs shot_right held
        ∙ sym (shown_last jobs base_layer (done slots') n w.index p below (ap (λ rects. any_holds rects p) (writes_there jobs w.index k w.job in_jobs) ∙ held)
        (done_here (key_of p) ∙ ap (λ b. b || done slots w.index (key_of p)) hit) (λ j a b. later j a b p held))
    go p false e = right.pixels p ∙ shown_same jobs base_layer (done slots) (done slots') n p (λ j h. each j (eqb w.index j) refl)
      where
        each : (j : ℕ) (b : Bool) → eqb w.index j ≡ b → (any_holds (writes_at jobs j) p && done slots j (key_of p)) ≡ (any_holds (writes_at jobs j) p && done slots' j (key_of p))
        each j false f = ap (λ b. any_holds (writes_at jobs j) p && b) (sym (done_there j (key_of p) f))
        each j true f =
            let same : w.index ≡ j = grind (arith, nat_tests) in
            subst (λ q. (any_holds (writes_at jobs q) p && done slots q (key_of p)) ≡ (any_holds (writes_at jobs q) p && done slots' q (key_of p))) same
            (same_and _ _ _ (λ held. sym (done_here (key_of p) ∙ not_this (any_holds (writes w.job) p) (same_key (key_of p) key) _ e (ap (λ rects. any_holds rects p) (sym (writes_there jobs w.index k w.job in_jobs)) ∙ held))))

-- the stroke under way after the tile was published
pub way_after_publish : (old new : State) (place : ℕ) (key : Key) (n : ℕ) → PublishStep old place key new → UnderWay old n → UnderWay new n
way_after_publish old new place key n step way = subst (λ s. UnderWay s n) (sym step.new_is) (record {
  stroke = way.stroke;
  at_head = way.at_head;
  base_layer = way.base_layer;
  was = way.was;
  layer = change way.layer;
  is = present_is;
  few = way.few;
  started = all_set (SlotIsStarted jobs n) old.slots place _ way.started here;
  once = once-set old.slots place step.painter _ step.runs refl way.once;
  overlap = λ i j a b runs. way.overlap i j a b (runs-set old.slots place step.painter _ i step.runs refl way.once runs);
  painted = published_right jobs way.base_layer way.layer n old.slots place step.painter key here.1 step.runs here.2 here.0 way.once later way.painted;
})
  where
    jobs : Jobs
    jobs = kept_jobs way.stroke

    change : Layer → Layer
    change = published step.painter.job step.painter.shot key

    same_stroke : step.stroke ≡ way.stroke
    same_stroke = let e : Some step.stroke ≡ Some way.stroke = sym step.at_head ∙ way.at_head in cc

    here : SlotIsStarted jobs n (Paints step.painter)
    here = all_get (SlotIsStarted jobs n) old.slots place (Paints step.painter) way.started step.runs

    present_is : adjusted step.stroke.layer change old.present ≡ with_content way.stroke.layer (change way.layer) old.base
    present_is = ap (λ (t : Stroke). adjusted t.layer change old.present) same_stroke ∙ ap (adjusted way.stroke.layer change) way.is ∙ adjusted-with_content way.stroke.layer change way.layer old.base

    later : (j : ℕ) → step.painter.index < j → j < n → (p : Point) → any_holds (writes step.painter.job) p ≡ true → any_holds (writes_at jobs j) p ≡ false
    later j a b p held =
        let may : (one_run jobs step.painter.index j ≡ true) × (both_uni jobs step.painter.index j ≡ false) = way.overlap step.painter.index j a b (runs_found old.slots place step.painter step.runs way.once) in
        later_apart jobs step.painter.index j here.1 step.painter.job here.2 may.0 may.1 (kept_clear way.stroke.jobs step.painter.index j a (omega (arith, way.few))) p held
