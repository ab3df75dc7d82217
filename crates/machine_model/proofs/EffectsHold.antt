-- What the events do, and what they leave alone.
use Rattle.std.proofs.Common.{false, ◌≡◌, ◌≢◌, ℕ, true, ◌&&◌, cond, [], Option, Some, None, refl, sym, ap, ◌∙◌, subst, eqb, ◌||◌, arith, ◌∷◌}
use Rattle.geom_core.specs.Areas.{holds, Point}
use Rattle.geom_core.specs.Rects.{any_holds}
use Rattle.geom_core.proofs.Tests.{taken, kept, both_true, or_left, neither, no_second, no_first}
use Rattle.doc_model.specs.declared.command.Outcome.TheVariants.{Done}
use Rattle.doc_model.specs.Layers.{at, Layer, painted}
use Rattle.doc_model.proofs.LayerLaws.{at-painted}
use Rattle.doc_model.specs.Jobs.{reads, writes, apply}
use Rattle.doc_model.specs.Shots.{in_tile, published}
use Rattle.doc_model.specs.Forest.{content, is_group}
use Rattle.doc_model.specs.Strokes.{Stroke, conflict}
use Rattle.doc_model.proofs.Shots.{at-published, default-published, shot_same}
use Rattle.doc_model.proofs.Contents.{content-with_content}
use Rattle.doc_model.proofs.SameContent.{adjusted_is}
use Rattle.doc_model.proofs.Weights.{tree_distinct}
use Rattle.machine_model.specs.State.{State, Walker}
use Rattle.machine_model.specs.Effects.{cancel_outcome, layer_in, updates_with_all}
use Rattle.machine_model.specs.UnderWay.{UnderWay}
use Rattle.machine_model.specs.EffectLaws.{JobsStartInOrder, PublishStaysInTile, PublishesTile, EndQueues, CancelPutsBack, WalkStaysInTile}
use Rattle.machine_model.proofs.StateTrees.{present_tree}
use Rattle.machine_model.proofs.JobKeeps.{painting}
use Rattle.std.proofs.lemmas.Bool.Decides.{nat_tests}
use Rattle.doc_model.specs.declared.canvas.Walk.TheVariants.{Up}
use Rattle.doc_model.specs.Picture.{canvas_area}
use Rattle.doc_model.specs.Queues.{queued_for}
use Rattle.machine_model.specs.Groups.{cache, parent_of}
use Rattle.machine_model.specs.Covers.{composes}
use Rattle.machine_model.specs.Walks.{walk_value}
use Rattle.machine_model.proofs.CanvasPoints.{canvas_grid}
use Rattle.machine_model.proofs.WalkPaths.{path_all}
use Rattle.machine_model.proofs.WalkPublishCaches.{cache_set}
use Rattle.machine_model.proofs.JobCaches.{updates_with_all_takes}
use Rattle.machine_model.proofs.GuardsHold.{starting, starts_at}

pub jobs_start_in_order : JobsStartInOrder
jobs_start_in_order old new place step = record {
  painter = starting old new place step;
  at_work = starts_at old new place step;
  started_before = step.begun;
  started_now = ap (λ (s : State). s.way) step.new_is;
  serial = refl;
  stroke = step.stroke;
  at_head = step.at_head;
  kind = step.job.0;
  listed = step.is_next;
  shot = shot_same (reads step.job.1) (layer_in step.stroke.layer old.present);
}

pub publish_stays_in_tile : PublishStaysInTile
publish_stays_in_tile old new place key sound step = go (painting old place step.painter step.runs old.way sound.on_way)
  where
    go : (n : ℕ) × (old.way ≡ Some n) × UnderWay old n → PublishesTile old new place key
    go found = record {
      painter = step.painter;
      at_work = step.runs;
      stroke = step.stroke;
      at_head = step.at_head;
      before = way.layer;
      was = was;
      after = published step.painter.job step.painter.shot key way.layer;
      is = ap (λ (s : State). s.present) step.new_is ∙ adjusted_is step.stroke.layer (published step.painter.job step.painter.shot key) way.layer old.present (tree_distinct old.present (present_tree old sound)) was;
      default_pixel = default-published step.painter.job step.painter.shot key way.layer;
      inside = λ p written hit. shows p ∙ taken (any_holds (writes step.painter.job) p && in_tile key p) _ _ (both_true _ _ written hit);
      out_of_tile = λ p out. shows p ∙ kept (any_holds (writes step.painter.job) p && in_tile key p) _ _ (no_second (any_holds (writes step.painter.job) p) _ out);
      out_of_writes = λ p out. shows p ∙ kept (any_holds (writes step.painter.job) p && in_tile key p) _ _ (ap (λ b. b && in_tile key p) out);
    }
      where
        way : UnderWay old found.0
        way = found.2

        same : step.stroke ≡ way.stroke
        same = let e : Some step.stroke ≡ Some way.stroke = sym step.at_head ∙ way.at_head in cc

        was : content step.stroke.layer old.present ≡ Some way.layer
        was = ap (λ (t : Stroke). content t.layer old.present) same ∙ ap (content way.stroke.layer) way.is ∙ content-with_content way.stroke.layer way.layer way.base_layer old.base way.was

        shows : (p : Point) → at (published step.painter.job step.painter.shot key way.layer) p ≡ cond (any_holds (writes step.painter.job) p && in_tile key p) (at (apply step.painter.job step.painter.shot) p) (at way.layer p)
        shows p = at-published step.painter.job step.painter.shot key way.layer p

pub end_queues : EndQueues
end_queues old new place sound step = record {
  painter = step.painter;
  at_work = step.runs;
  stroke = step.stroke;
  at_head = step.at_head;
  waits = λ g p. subst (WaitsAt g p) (sym step.new_is) (waits g p);
}
  where
    WaitsAt : ℕ → Point → State → Type 0
    WaitsAt g p s = (eqb g 0 || is_group g s.present) ≡ true → composes g s.present (Up (parent_of step.stroke.layer s.present)) ≡ true
        → holds (canvas_area s.canvas) p ≡ true → any_holds (writes step.painter.job) p ≡ true → queued_for (composes g s.present) s.updates p ≡ true

    waits : (g : ℕ) (p : Point) → (eqb g 0 || is_group g old.present) ≡ true → composes g old.present (Up (parent_of step.stroke.layer old.present)) ≡ true
        → holds (canvas_area old.canvas) p ≡ true → any_holds (writes step.painter.job) p ≡ true
        → queued_for (composes g old.present) (updates_with_all (canvas_area old.canvas) (parent_of step.stroke.layer old.present) (writes step.painter.job) old.updates) p ≡ true
    waits g p is on_path inside written = updates_with_all_takes (composes g old.present) (λ w e. path_all g old.present is) (canvas_area old.canvas) (parent_of step.stroke.layer old.present) (writes step.painter.job) old.updates p (canvas_grid old.canvas sound.counted.canvas p inside) inside on_path written

pub cancel_puts_back : CancelPutsBack
cancel_puts_back old new step = record {
  present = ap (λ (s : State). s.present) step.new_is;
  base = ap (λ (s : State). s.base) step.new_is;
  past = ap (λ (s : State). s.past) step.new_is;
  future = ap (λ (s : State). s.future) step.new_is;
  frames = ap (λ (s : State). s.frames) step.new_is;
  way = ap (λ (s : State). s.way) step.new_is;
  outcome = cancel_outcome (conflict step.stroke.jobs);
  told = ap (λ (s : State). s.outcomes) step.new_is;
  not_done = not_done (conflict step.stroke.jobs);
}
  where
    not_done : (o : Option (ℕ × ℕ)) → cancel_outcome o ≢ Done
    not_done None = λ e. cc
    not_done (Some pair) = λ e. cc

pub walk_stays_in_tile : WalkStaysInTile
walk_stays_in_tile old new place g key step = record {
  walker = w;
  at_work = step.runs;
  others = λ h p apart. ap (λ l. at l p) (set h ∙ kept (eqb h g) _ _ (other h apart));
  inside = λ p held hit. shows p ∙ taken ((holds w.patch.rect p || false) && in_tile key p) _ _ (both_true _ _ (or_left _ _ held) hit);
  out_of_tile = λ p out. shows p ∙ kept ((holds w.patch.rect p || false) && in_tile key p) _ _ (no_second (holds w.patch.rect p || false) _ out);
  out_of_patch = λ p out. shows p ∙ kept ((holds w.patch.rect p || false) && in_tile key p) _ _ (no_first (holds w.patch.rect p || false) _ (neither _ _ out refl));
}
  where
    w : Walker
    w = step.walker

    made : Layer
    made = painted (w.patch.rect ∷ []) (in_tile key) (walk_value w.shot g) (cache old.caches g)

    set : (h : ℕ) → cache new.caches h ≡ cond (eqb h g) made (cache old.caches h)
    set h = ap (λ (s : State). cache s.caches h) step.new_is ∙ cache_set old.caches g h made

    other : (h : ℕ) → h ≢ g → eqb h g ≡ false
    other h apart = grind (arith, nat_tests)

    itself : (h : ℕ) → eqb h h ≡ true
    itself h = grind (arith, nat_tests)

    shows : (p : Point) → at (cache new.caches g) p ≡ cond ((holds w.patch.rect p || false) && in_tile key p) (walk_value w.shot g p) (at (cache old.caches g) p)
    shows p = ap (λ l. at l p) (set g ∙ taken (eqb g g) _ _ (itself g)) ∙ at-painted (w.patch.rect ∷ []) (in_tile key) (walk_value w.shot g) (cache old.caches g) p
