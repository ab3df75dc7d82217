-- A stroke that finishes does to the story what it means.
use Rattle.std.proofs.Common.{◌≡◌, ℕ, true, false, List, [], ◌∷◌, None, length, take, refl, sym, ap, ◌∙◌}
use Rattle.std.specs.List.{list_any}
use Rattle.geom_core.specs.Grid.{key_of}
use Rattle.doc_model.specs.declared.job.Job.{Job}
use Rattle.doc_model.specs.declared.job.Kind.{Kind}
use Rattle.doc_model.specs.Layers.{Layer, at}
use Rattle.doc_model.proofs.LayerLaws.{layer_ext}
use Rattle.doc_model.specs.Jobs.{apply_all}
use Rattle.doc_model.specs.Strokes.{conflict}
use Rattle.machine_model.specs.State.{State, Slot, Free, Paints, Walks}
use Rattle.machine_model.specs.Slots.{is_painter, no_painter}
use Rattle.machine_model.specs.Painters.{painter_in, done, is_done}
use Rattle.geom_core.proofs.Tests.{not_true, length_map}
use Rattle.machine_model.proofs.Lists.{take_all}
use Rattle.machine_model.specs.Guards.{kept_jobs}
use Rattle.machine_model.specs.UnderWay.{UnderWay, after_jobs, jobs_only}
use Rattle.machine_model.proofs.ShownPixels.{shown_all, default-after}

-- nobody paints
none_paints : (slots : List Slot) (q : ℕ) → list_any is_painter slots ≡ false → painter_in q slots ≡ None
none_paints [] q e = refl
none_paints (Free ∷ slots) q e = none_paints slots q e
none_paints (Walks w ∷ slots) q e = none_paints slots q e
none_paints (Paints w ∷ slots) q e = cc

-- the layer after all the jobs
pub whole_layer : (old : State) (n : ℕ) (way : UnderWay old n) → conflict way.stroke.jobs ≡ None → n ≡ length way.stroke.jobs → no_painter old ≡ true → way.layer ≡ apply_all (jobs_only way.stroke.jobs) way.base_layer
whole_layer old n way clear whole idle = layer_ext _ _ (way.painted.default_pixel ∙ sym (ap (λ (l : Layer). l.default_pixel) all ∙ default-after (kept_jobs way.stroke) way.base_layer n)) (λ p.
    way.painted.pixels p
    ∙ shown_all (kept_jobs way.stroke) way.base_layer (done old.slots) n p (λ j h held. ap (λ o. is_done o (key_of p)) (none_paints old.slots j (not_true _ idle)))
    ∙ ap (λ l. at l p) (sym all))
  where
    all : apply_all (jobs_only way.stroke.jobs) way.base_layer ≡ after_jobs (kept_jobs way.stroke) way.base_layer n
    all = sym (rw (clear, whole) (ap (λ js. apply_all js way.base_layer) (ap (λ m. take m (jobs_only way.stroke.jobs)) (sym (length_map (λ (j : Kind × Job). j.1) way.stroke.jobs)) ∙ take_all (jobs_only way.stroke.jobs))))
