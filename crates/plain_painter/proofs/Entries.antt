-- What becomes of the story as entries end.
use Rattle.std.proofs.Common.{◌≡◌, ℕ, Bool, true, false, Option, Some, None, is_some, List, [], ◌∷◌, ◌++◌, length, cond, eqb, ◌||◌, refl, sym, ap, ◌∙◌, subst}
use Rattle.std.specs.Prelude.{slice_get, Result, Ok, Err, IfOk, All}
use Rattle.std.specs.Option.{unwrap_or}
use Rattle.std.specs.List.{list_all, AllByRecursion}
use Rattle.std.proofs.lemmas.List.Elements.{recursion_from_All}
use Rattle.std.proofs.lemmas.List.Sums.{AllPass-from_list_all}
use Rattle.std.proofs.lemmas.Result.{IfOk-weaker}
use Rattle.pixel_core.specs.Rgba.{clear}
use Rattle.geom_core.proofs.Tests.{both_true, is_some-None}
use Rattle.doc_model.specs.declared.job.Job.{Job}
use Rattle.doc_model.specs.declared.job.Kind.{Kind}
use Rattle.doc_model.specs.declared.command.Command.{Command}
use Rattle.doc_model.specs.declared.command.Outcome.{Outcome}
use Rattle.doc_model.specs.declared.command.Outcome.TheVariants as outcome
use Rattle.doc_model.specs.Layers.{Layer, plain}
use Rattle.doc_model.specs.Jobs.{apply_all, checks}
use Rattle.doc_model.specs.Forest.{content, with_content}
use Rattle.doc_model.specs.Changes.{there}
use Rattle.doc_model.specs.Picture.{Doc}
use Rattle.doc_model.specs.Lawful.{within_limits}
use Rattle.doc_model.specs.Feeding.{is_closed_entry, lawful}
use Rattle.doc_model.specs.Meaning.{Story, start, told, laid_stroke, advanced, meaning, ends_with}
use Rattle.doc_model.specs.Strokes as doc
use Rattle.doc_model.specs.Strokes.{Stroke, Jobs, entries}
use Rattle.machine_model.specs.Effects.{layer_in}
use Rattle.machine_model.specs.UnderWay.{jobs_only}
use Rattle.stroke_core.specs.Fed.{Closed}
use Rattle.entry_queue.specs.declared.entry.Entry.{Entry}
use Rattle.entry_queue.specs.declared.entry.Entry.TheVariants.{Whole}
use Rattle.entry_queue.specs.Pushed.{Pending, StandsFor, queued}
use Rattle.desk_steps.specs.Archives.{shape}
use Rattle.doc_model.proofs.SameTree.{has_each}
use Rattle.script_text.specs.Script.{Contents}
use Rattle.plain_painter.specs.declared.telling.Telling.{Telling}
use Rattle.plain_painter.specs.Steps.{job_sound}
use Rattle.plain_painter.specs.Tellings.{GoesOn, Ends, HasCome, IsReady, Tells, story_of}
use Rattle.plain_painter.proofs.Filling.{Shape}
use Rattle.plain_painter.proofs.Queued.{as_stroke, told_laid, IsNext, next_entry, ready_next, holds_at, told_next, told_none, told_all_left}

-- a stroke that was laid
pub laid_ends : {E : Type 0} (old new : Telling) (e : doc.Entry) (c : Closed) (r : Result Outcome E) → queued e ≡ Whole c → c.stroke.overlap ≡ None → c.cancelled ≡ false
    → ((s : Stroke) → s.layer ≡ c.stroke.layer → s.jobs ≡ c.stroke.jobs → IfOk r (GoesOn (λ story. laid_stroke story s (content s.layer story.document)) old new)) → IfOk r (Ends e old new)
laid_ends old new e c r h n k g = IfOk-weaker r _ _
    (λ o on. record { canvas = on.canvas; story = λ outcomes. on.story outcomes ∙ sym (told_laid old.canvas (story_of old outcomes) e c h n k) })
    (g (as_stroke c) refl refl)

-- a stroke whose jobs were done on its layer
pub laid_goes : {E : Type 0} (old new : Telling) (layer : ℕ) (jobs : Jobs) (next : Doc) (r : Result Outcome E) → is_some (content layer old.document) ≡ true
    → next ≡ with_content layer (apply_all (jobs_only jobs) (layer_in layer old.document)) old.document → IfOk r (GoesOn (λ story. advanced story next) old new)
    → (s : Stroke) → s.layer ≡ layer → s.jobs ≡ jobs → IfOk r (GoesOn (λ story. laid_stroke story s (content s.layer story.document)) old new)
laid_goes old new layer jobs next (Err e) h n g s sl sj = tt
laid_goes old new layer jobs next (Ok o) h n g s sl sj = go (content layer old.document) refl h
  where
    go : (c : Option Layer) → content layer old.document ≡ c → is_some c ≡ true → GoesOn (λ story. laid_stroke story s (content s.layer story.document)) old new o
    go None e k = cc
    go (Some x) e k = record { canvas = g.canvas; story = λ outcomes. g.story outcomes ∙ sym (is outcomes) }
      where
        next_is : with_content layer (apply_all (jobs_only jobs) x) old.document ≡ next
        next_is = ap (λ l. with_content layer (apply_all (jobs_only jobs) l) old.document) (sym (ap (λ c. unwrap_or c (plain clear)) e)) ∙ sym n

        is : (outcomes : List Outcome) → laid_stroke (story_of old outcomes) s (content s.layer old.document) ≡ advanced (story_of old outcomes) next
        is outcomes = ap (laid_stroke (story_of old outcomes) s) (ap (λ q. content q old.document) sl ∙ e)
            ∙ (λ i. advanced (story_of old outcomes) (with_content (sl i) (apply_all (jobs_only (sj i)) x) old.document)) ∙ ap (advanced (story_of old outcomes)) next_is

-- a stroke whose layer isn't a paint layer
pub not_laid : (s : Telling) (t : Shape) (layer : ℕ) (b : Bool) (stroke : Stroke) → is_some (content layer s.document) ≡ false → t ≡ shape s.document → there layer t ≡ b → stroke.layer ≡ layer
    → GoesOn (λ story. laid_stroke story stroke (content stroke.layer story.document)) s s (cond b (outcome.NotPaint layer) (outcome.NoLayer layer))
not_laid s t layer b stroke h e is same = record {
  canvas = refl;
  story = λ outcomes. sym (ap (laid_stroke (story_of s outcomes) stroke) (ap (λ q. content q s.document) same ∙ is_some-None (content layer s.document) h)
      ∙ (λ i. ends_with (story_of s outcomes) (cond (there (same i) s.document) (outcome.NotPaint (same i)) (outcome.NoLayer (same i))))
      ∙ ap (λ c. ends_with (story_of s outcomes) (cond c (outcome.NotPaint layer) (outcome.NoLayer layer))) there_is);
}
  where
    there_is : there layer s.document ≡ b
    there_is = ap (λ c. eqb layer 0 || c) (sym (has_each _ layer s.document)) ∙ sym (ap (there layer) e) ∙ is

-- jobs that check and meet the limits
pub all_sound : (jobs : Jobs) → All (λ (j : Kind × Job). checks j.1 ≡ true) jobs → All (λ (j : Kind × Job). within_limits j.1 ≡ true) jobs → list_all job_sound (jobs_only jobs) ≡ true
all_sound jobs c l = go jobs (recursion_from_All (λ (j : Kind × Job). checks j.1 ≡ true) jobs c) (recursion_from_All (λ (j : Kind × Job). within_limits j.1 ≡ true) jobs l)
  where
    go : (jobs : Jobs) → AllByRecursion (λ (j : Kind × Job). checks j.1 ≡ true) jobs → AllByRecursion (λ (j : Kind × Job). within_limits j.1 ≡ true) jobs → list_all job_sound (jobs_only jobs) ≡ true
    go [] c l = refl
    go (j ∷ jobs) c l = both_true _ _ (both_true _ _ c.0 l.0) (go jobs c.1 l.1)

-- the first entry is ready
pub next_ready : (commands : List Command) (s : Telling) (q : Pending) (x : Entry) → lawful commands ≡ true → list_all is_closed_entry (entries commands) ≡ true → HasCome commands s q → Some x ≡ slice_get q.left 0 → IsReady x
next_ready commands s q x l all h e =
    let next : IsNext (entries commands) (length q.outcomes) x = next_entry commands q x h.queue e in
    ready_next commands (length q.outcomes) x l next (holds_at (λ e. is_closed_entry e ≡ true) (entries commands) (length q.outcomes) next.entry next.at (recursion_from_All _ (entries commands) (AllPass-from_list_all is_closed_entry (entries commands) all)))

-- one entry more
pub come_further : (commands : List Command) (old new : Telling) (q r : Pending) (x : Entry) (o : Outcome) → HasCome commands old q → Some x ≡ slice_get q.left 0
    → ((e : doc.Entry) → queued e ≡ x → Ends e old new o) → r.outcomes ≡ q.outcomes ++ o ∷ [] → StandsFor commands r → HasCome commands new r
come_further commands old new q r x o h e ends outcomes stands =
    let next : IsNext (entries commands) (length q.outcomes) x = next_entry commands q x h.queue e in
    let on : Ends next.entry old new o = ends next.entry next.is in
    record {
      queue = stands;
      story = ap (story_of new) outcomes ∙ on.story q.outcomes ∙ ap (λ t. told old.canvas t next.entry) h.story ∙ told_next old.canvas new.canvas (entries commands) next.entry q.outcomes r.outcomes o next.at outcomes on.canvas;
    }

-- no entry yet
pub come_none : (fed commands : List Command) (s : Telling) (q : Pending) → fed ≡ commands → StandsFor fed q → q.outcomes ≡ [] → story_of s [] ≡ start → HasCome commands s q
come_none fed commands s q same stands none begins = record {
  queue = subst (λ cs. StandsFor cs q) same stands;
  story = ap (story_of s) none ∙ begins ∙ told_none s.canvas (entries commands) q.outcomes none;
}

-- the frames and the outcomes after all entries
pub come_tells : (script : Contents) (s : Telling) (q : Pending) → HasCome script.commands s q → s.canvas ≡ script.canvas → q.left ≡ [] → Tells script s.frames.items q.outcomes
come_tells script s q h c e =
    let told : story_of s q.outcomes ≡ meaning script.canvas (entries script.commands) =
    h.story ∙ told_all_left s.canvas script.commands q h.queue e ∙ ap (λ d. meaning d (entries script.commands)) c in
    record {
      frames_are = ap (λ (t : Story). t.frames) told;
      outcomes_are = ap (λ (t : Story). t.outcomes) told;
    }
