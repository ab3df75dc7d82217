-- What the function gives is a step, and a step is what it gives.
use Rattle.std.proofs.Common.{◌≡◌, ℕ, Bool, true, false, ◌&&◌, ◌||◌, not, Option, Some, None, List, [], ◌∷◌, length, refl, sym, ap, ◌∙◌, arith, eqb, subst, inl, inr}
use Rattle.std.specs.Prelude.{slice_get}
use Rattle.std.specs.List.{list_any}
use Rattle.std.proofs.lemmas.Bool.Decides.{nat_tests}
use Rattle.geom_core.proofs.Tests.{true_or_false, and_left, and_right, both_true, or_cases, or_left, or_right, not_true}
use Rattle.geom_core.specs.Grid.{Key, same_key, keys_of, all_keys_of}
use Rattle.doc_model.specs.declared.job.Job.{Job}
use Rattle.doc_model.specs.declared.job.Kind.{Kind}
use Rattle.doc_model.specs.declared.canvas.Patch.{Patch}
use Rattle.doc_model.specs.Jobs.{writes}
use Rattle.doc_model.specs.Queues.{all_unlike}
use Rattle.doc_model.specs.Lawful.{may_follow}
use Rattle.doc_model.specs.Strokes.{is_export, Stroke, Entry, Strokes, Changes, Undoes, Redoes, Purges, Exports, entries}
use Rattle.machine_model.specs.State.{Slot, Free, Paints, Walks, State, head, head_stroke}
use Rattle.machine_model.specs.Event.{Event, Feed, Init, Start, Publish, End, Finish, Cancel, Act, WalkStart, WalkPublish, WalkEnd}
use Rattle.machine_model.specs.Slots.{no_painter, no_walker}
use Rattle.machine_model.specs.Groups.{on}
use Rattle.machine_model.specs.Guards.{kept_jobs, is_cancelled, is_ended, is_closed, overlaps, is_paint, blocks, is_bar, is_exclusive, same_pair}
use Rattle.machine_model.specs.Effects.{after_finish, after_entry}
use Rattle.machine_model.specs.Step.{Step, InitStep, StartStep, PublishStep, EndStep, FinishStep, CancelStep, ActStep, WalkStartStep, WalkPublishStep, WalkEndStep}
use Rattle.machine_model.proofs.RunsOrderly.{runs_are_orderly}
use Rattle.machine_model.specs.Next.{next, when, is_number, is_clear, is_alive, may_begin, begun, lets_bar, may_start, with_painter, job_started, started, may_publish, with_tile, tile_published, is_painted, without_painter, ended, has_ended, may_finish, finished, may_cancel, after_cancel, cancelled, may_act, acted, place_of, may_walk, with_walker, walk_started, groups_of, may_compose, with_composed, tile_composed, is_composed, walk_ended}
use Rattle.machine_model.specs.NextLaws.{StepsAreNext}
use Rattle.machine_model.proofs.Found.{keys_pass, pass_keys, groups_pass, pass_groups, found_is, found_at}

-- tests

pub some_when : (b : Bool) (x t : State) → when b x ≡ Some t → (b ≡ true) × (t ≡ x)
some_when true x t e = (refl, (let same : x ≡ t = cc in sym same))
some_when false x t e = cc

pub when_some : (b : Bool) (x t : State) → b ≡ true → t ≡ x → when b x ≡ Some t
when_some true x t e f = ap Some (sym f)
when_some false x t e f = cc

implied : (a b : Bool) → (not a || b) ≡ true → a ≡ true → b ≡ true
implied true b h e = h
implied false b h e = cc

implies : (a b : Bool) → (a ≡ true → b ≡ true) → (not a || b) ≡ true
implies true b h = h refl
implies false b h = refl

not_false : (b : Bool) → b ≡ false → not b ≡ true
not_false b e = ap not e

pub nothing_waits : (ps : List Patch) → is_clear ps ≡ true → ps ≡ []
nothing_waits [] e = refl
nothing_waits (p ∷ ps) e = cc

pub waits_nothing : (ps : List Patch) → ps ≡ [] → is_clear ps ≡ true
waits_nothing ps e = ap is_clear e

number_is : (n : ℕ) (o : Option ℕ) → is_number n o ≡ true → o ≡ Some n
number_is n None e = cc
number_is n (Some m) e = let same : m ≡ n = grind (arith, nat_tests) in ap Some same

is_the_number : (n : ℕ) (o : Option ℕ) → o ≡ Some n → is_number n o ≡ true
is_the_number n o e = ap (is_number n) e ∙ itself n
  where
    itself : (n : ℕ) → eqb n n ≡ true
    itself n = grind (arith, nat_tests)

export_is : (e : Entry) → is_export e ≡ true → e ≡ Exports
export_is (Strokes stroke) h = cc
export_is (Changes c) h = cc
export_is Undoes h = cc
export_is Redoes h = cc
export_is (Purges n) h = cc
export_is Exports h = refl

is_the_export : (e : Entry) → e ≡ Exports → is_export e ≡ true
is_the_export e h = ap is_export h

no_state : {A : Type 0} (t : State) → None ≡ Some t → A
no_state t e = cc

module _ (s t : State) where
  -- the function gives steps

  init_step : next s Init ≡ Some t → InitStep s t
  init_step e = go (head_stroke s) s.way refl refl e
    where
      go : (o : Option Stroke) (w : Option ℕ) → head_stroke s ≡ o → s.way ≡ w → begun s o w ≡ Some t → InitStep s t
      go None w h k e = no_state t e
      go (Some stroke) (Some n) h k e = no_state t e
      go (Some stroke) None h k e =
          let r = some_when (may_begin s stroke) (record s { way = Some 0 }) t e in
          let alive : is_alive stroke ≡ true = and_left (is_alive stroke) (is_paint stroke.layer s.base && (not stroke.exclusive || no_walker s)) r.0 in
          let rest : (is_paint stroke.layer s.base && (not stroke.exclusive || no_walker s)) ≡ true = and_right (is_alive stroke) (is_paint stroke.layer s.base && (not stroke.exclusive || no_walker s)) r.0 in
          record {
            stroke = stroke;
            at_head = h;
            not_begun = k;
            not_cancelled = not_true _ (and_left (not (is_cancelled stroke)) (not (overlaps stroke)) alive);
            no_overlap = not_true _ (and_right (not (is_cancelled stroke)) (not (overlaps stroke)) alive);
            on_paint = and_left (is_paint stroke.layer s.base) (not stroke.exclusive || no_walker s) rest;
            alone = implied _ _ (and_right (is_paint stroke.layer s.base) (not stroke.exclusive || no_walker s) rest);
            new_is = r.1;
          }

  start_step : (place : ℕ) → next s (Start place) ≡ Some t → StartStep s place t
  start_step place e = go (head_stroke s) s.way (slice_get s.slots place) refl refl refl e
    where
      make : (stroke : Stroke) (n : ℕ) (o : Option (Kind × Job)) → head_stroke s ≡ Some stroke → s.way ≡ Some n → slice_get s.slots place ≡ Some Free → slice_get (kept_jobs stroke) n ≡ o → job_started s place stroke n o ≡ Some t → StartStep s place t
      make stroke n None h k f j e = no_state t e
      make stroke n (Some job) h k f j e =
          let r = some_when (may_start s stroke job) (with_painter s place stroke n job.1) t e in
          let others : (not (list_any (blocks (kept_jobs stroke) job.0) s.slots) && (not (is_bar job.0) || lets_bar s stroke)) ≡ true = and_right (is_alive stroke) _ r.0 in
          let alive : is_alive stroke ≡ true = and_left (is_alive stroke) _ r.0 in
          record {
            stroke = stroke;
            at_head = h;
            next = n;
            begun = k;
            not_cancelled = not_true _ (and_left (not (is_cancelled stroke)) (not (overlaps stroke)) alive);
            no_overlap = not_true _ (and_right (not (is_cancelled stroke)) (not (overlaps stroke)) alive);
            free = f;
            job = job;
            is_next = j;
            unblocked = not_true _ (and_left (not (list_any (blocks (kept_jobs stroke) job.0) s.slots)) _ others);
            barrier = λ bar shared. clean stroke shared (implied (is_bar job.0) (lets_bar s stroke) (and_right (not (list_any (blocks (kept_jobs stroke) job.0) s.slots)) _ others) bar);
            new_is = r.1;
          }
        where
          clean : (stroke : Stroke) → stroke.exclusive ≡ false → lets_bar s stroke ≡ true → (no_walker s ≡ true) × (s.updates ≡ [])
          clean stroke shared h =
              let both : (no_walker s && is_clear s.updates) ≡ true = elim (or_cases stroke.exclusive _ h) [ inl x ↦ (let f : true ≡ false = sym x ∙ shared in cc) | inr x ↦ x ] in
              (and_left (no_walker s) _ both, nothing_waits s.updates (and_right (no_walker s) _ both))

      go : (o : Option Stroke) (w : Option ℕ) (slot : Option Slot) → head_stroke s ≡ o → s.way ≡ w → slice_get s.slots place ≡ slot → started s place o w slot ≡ Some t → StartStep s place t
      go None w slot h k f e = no_state t e
      go (Some stroke) None slot h k f e = no_state t e
      go (Some stroke) (Some n) None h k f e = no_state t e
      go (Some stroke) (Some n) (Some (Paints w)) h k f e = no_state t e
      go (Some stroke) (Some n) (Some (Walks w)) h k f e = no_state t e
      go (Some stroke) (Some n) (Some Free) h k f e = make stroke n (slice_get (kept_jobs stroke) n) h k f refl e

  publish_step : (place : ℕ) (key : Key) → next s (Publish place key) ≡ Some t → PublishStep s place key t
  publish_step place key e = go (head_stroke s) (slice_get s.slots place) refl refl e
    where
      go : (o : Option Stroke) (slot : Option Slot) → head_stroke s ≡ o → slice_get s.slots place ≡ slot → tile_published s place key o slot ≡ Some t → PublishStep s place key t
      go None slot h f e = no_state t e
      go (Some stroke) None h f e = no_state t e
      go (Some stroke) (Some Free) h f e = no_state t e
      go (Some stroke) (Some (Walks w)) h f e = no_state t e
      go (Some stroke) (Some (Paints w)) h f e =
          let r = some_when (may_publish w key) (with_tile s place key stroke w) t e in
          record {
            painter = w;
            runs = f;
            in_job = and_left (list_any (same_key key) (all_keys_of (writes w.job))) _ r.0;
            fresh = not_true _ (and_right (list_any (same_key key) (all_keys_of (writes w.job))) _ r.0);
            stroke = stroke;
            at_head = h;
            new_is = r.1;
          }

  end_step : (place : ℕ) → next s (End place) ≡ Some t → EndStep s place t
  end_step place e = go (head_stroke s) (slice_get s.slots place) refl refl e
    where
      go : (o : Option Stroke) (slot : Option Slot) → head_stroke s ≡ o → slice_get s.slots place ≡ slot → ended s place o slot ≡ Some t → EndStep s place t
      go None slot h f e = no_state t e
      go (Some stroke) None h f e = no_state t e
      go (Some stroke) (Some Free) h f e = no_state t e
      go (Some stroke) (Some (Walks w)) h f e = no_state t e
      go (Some stroke) (Some (Paints w)) h f e =
          let r = some_when (is_painted w) (without_painter s place stroke w) t e in
          record {
            painter = w;
            runs = f;
            all = λ key. keys_pass (λ k. list_any (same_key k) w.published) (all_keys_of (writes w.job)) key r.0;
            stroke = stroke;
            at_head = h;
            new_is = r.1;
          }

  finish_step : next s Finish ≡ Some t → FinishStep s t
  finish_step e = go (head_stroke s) refl e
    where
      go : (o : Option Stroke) → head_stroke s ≡ o → finished s o ≡ Some t → FinishStep s t
      go None h e = no_state t e
      go (Some stroke) h e =
          let r = some_when (may_finish s stroke) (after_finish s stroke (is_paint stroke.layer s.base)) t e in
          let rest : (not (overlaps stroke) && (not (is_paint stroke.layer s.base) || has_ended s stroke)) ≡ true = and_right (is_ended stroke) _ r.0 in
          record {
            stroke = stroke;
            at_head = h;
            ended = and_left (is_ended stroke) _ r.0;
            no_overlap = not_true _ (and_left (not (overlaps stroke)) _ rest);
            all_ended = λ paint. (
                let both : has_ended s stroke ≡ true = implied (is_paint stroke.layer s.base) (has_ended s stroke) (and_right (not (overlaps stroke)) _ rest) paint in
                (number_is (length stroke.jobs) s.way (and_left (is_number (length stroke.jobs) s.way) _ both), and_right (is_number (length stroke.jobs) s.way) _ both));
            new_is = r.1;
          }

  cancel_step : next s Cancel ≡ Some t → CancelStep s t
  cancel_step e = go (head_stroke s) refl e
    where
      go : (o : Option Stroke) → head_stroke s ≡ o → cancelled s o ≡ Some t → CancelStep s t
      go None h e = no_state t e
      go (Some stroke) h e =
          let r = some_when (may_cancel s stroke) (after_cancel s stroke) t e in
          let rest : ((is_cancelled stroke || overlaps stroke) && no_painter s) ≡ true = and_right (is_closed stroke) _ r.0 in
          record {
            stroke = stroke;
            at_head = h;
            closed = and_left (is_closed stroke) _ r.0;
            refused = and_left (is_cancelled stroke || overlaps stroke) _ rest;
            idle = and_right (is_cancelled stroke || overlaps stroke) _ rest;
            new_is = r.1;
          }

  act_step : next s Act ≡ Some t → ActStep s t
  act_step e = go (head_stroke s) (head s) refl refl e
    where
      go : (o : Option Stroke) (x : Option Entry) → head_stroke s ≡ o → head s ≡ x → acted s o x ≡ Some t → ActStep s t
      go None None h k e = no_state t e
      go (Some stroke) x h k e = no_state t e
      go None (Some entry) h k e =
          let r = some_when (may_act s entry) (after_entry s entry) t e in
          record {
            entry = entry;
            at_head = k;
            no_stroke = h;
            no_walks = and_left (no_walker s) _ r.0;
            clean = λ is. nothing_waits s.updates (implied (is_export entry) (is_clear s.updates) (and_right (no_walker s) _ r.0) (is_the_export entry is));
            new_is = r.1;
          }

  walk_start_step : (place : ℕ) (patch : Patch) → next s (WalkStart place patch) ≡ Some t → WalkStartStep s place patch t
  walk_start_step place patch e = go (slice_get s.updates (place_of patch s.updates)) (slice_get s.slots place) refl refl e
    where
      make : (q : Patch) → q ≡ patch → slice_get s.updates (place_of patch s.updates) ≡ Some q → slice_get s.slots place ≡ Some Free → walk_started s place (place_of patch s.updates) (Some q) (Some Free) ≡ Some t → WalkStartStep s place q t
      make q same p f e =
          let r = some_when (may_walk s q.rect) (with_walker s place (place_of patch s.updates) q) t e in
          record {
            i = place_of patch s.updates;
            waits = p;
            free = f;
            not_exclusive = not_true _ (and_left (not (is_exclusive (head_stroke s) s.way)) _ r.0);
            avoids = not_true _ (and_right (not (is_exclusive (head_stroke s) s.way)) _ r.0);
            new_is = r.1;
          }

      go : (p : Option Patch) (slot : Option Slot) → slice_get s.updates (place_of patch s.updates) ≡ p → slice_get s.slots place ≡ slot → walk_started s place (place_of patch s.updates) p slot ≡ Some t → WalkStartStep s place patch t
      go None slot p f e = no_state t e
      go (Some q) None p f e = no_state t e
      go (Some q) (Some (Paints w)) p f e = no_state t e
      go (Some q) (Some (Walks w)) p f e = no_state t e
      go (Some q) (Some Free) p f e = let same : q ≡ patch = found_is patch s.updates q p in subst (λ x. WalkStartStep s place x t) same (make q same p f e)

  walk_publish_step : (place g : ℕ) (key : Key) → next s (WalkPublish place g key) ≡ Some t → WalkPublishStep s place g key t
  walk_publish_step place g key e = go (slice_get s.slots place) refl e
    where
      go : (slot : Option Slot) → slice_get s.slots place ≡ slot → tile_composed s place g key slot ≡ Some t → WalkPublishStep s place g key t
      go None f e = no_state t e
      go (Some Free) f e = no_state t e
      go (Some (Paints w)) f e = no_state t e
      go (Some (Walks w)) f e =
          let r = some_when (may_compose w g key) (with_composed s place g key w) t e in
          let rest : (list_any (same_key key) (keys_of w.patch.rect) && not (list_any (same_pair g key) w.published)) ≡ true = and_right (on g (groups_of w)) _ r.0 in
          record {
            walker = w;
            runs = f;
            on_path = and_left (on g (groups_of w)) _ r.0;
            in_patch = and_left (list_any (same_key key) (keys_of w.patch.rect)) _ rest;
            fresh = not_true _ (and_right (list_any (same_key key) (keys_of w.patch.rect)) _ rest);
            new_is = r.1;
          }

  walk_end_step : (place : ℕ) → next s (WalkEnd place) ≡ Some t → WalkEndStep s place t
  walk_end_step place e = go (slice_get s.slots place) refl e
    where
      go : (slot : Option Slot) → slice_get s.slots place ≡ slot → walk_ended s place slot ≡ Some t → WalkEndStep s place t
      go None f e = no_state t e
      go (Some Free) f e = no_state t e
      go (Some (Paints w)) f e = no_state t e
      go (Some (Walks w)) f e =
          let r = some_when (is_composed w) (record s { slots = _ }) t e in
          record {
            walker = w;
            runs = f;
            all = λ g key on_path. keys_pass (λ k. list_any (same_pair g k) w.published) (keys_of w.patch.rect) key (groups_pass (λ h. _) (groups_of w) g r.0 on_path);
            new_is = r.1;
          }

  pub gives_step : (e : Event) → next s e ≡ Some t → Step s e t
  gives_step (Feed c) h = some_when (may_follow (entries s.fed) c) (record s { fed = _ }) t h
  gives_step Init h = init_step h
  gives_step (Start place) h = start_step place h
  gives_step (Publish place key) h = publish_step place key h
  gives_step (End place) h = end_step place h
  gives_step Finish h = finish_step h
  gives_step Cancel h = cancel_step h
  gives_step Act h = act_step h
  gives_step (WalkStart place patch) h = walk_start_step place patch h
  gives_step (WalkPublish place g key) h = walk_publish_step place g key h
  gives_step (WalkEnd place) h = walk_end_step place h

  -- steps are what the function gives

  alive_test : (stroke : Stroke) → is_cancelled stroke ≡ false → overlaps stroke ≡ false → is_alive stroke ≡ true
  alive_test stroke a b = both_true _ _ (not_false _ a) (not_false _ b)

  pub init_given : InitStep s t → next s Init ≡ Some t
  init_given step = (λ i. begun s (step.at_head i) (step.not_begun i)) ∙ when_some (may_begin s step.stroke) (record s { way = Some 0 }) t
      (both_true _ _ (alive_test step.stroke step.not_cancelled step.no_overlap) (both_true _ _ step.on_paint (implies _ _ step.alone))) step.new_is

  start_given : (place : ℕ) → StartStep s place t → next s (Start place) ≡ Some t
  start_given place step = (λ i. started s place (step.at_head i) (step.begun i) (step.free i)) ∙ ap (job_started s place step.stroke step.next) step.is_next
      ∙ when_some (may_start s step.stroke step.job) (with_painter s place step.stroke step.next step.job.1) t
      (both_true _ _ (alive_test step.stroke step.not_cancelled step.no_overlap) (both_true _ _ (not_false _ step.unblocked) (implies _ _ bar))) step.new_is
    where
      bar : is_bar step.job.0 ≡ true → lets_bar s step.stroke ≡ true
      bar is = elim (true_or_false step.stroke.exclusive) [
        | inl x ↦ or_left _ _ x
        | inr x ↦ (let b = step.barrier is x in or_right step.stroke.exclusive _ (both_true _ _ b.0 (waits_nothing s.updates b.1)))
      ]

  publish_given : (place : ℕ) (key : Key) → PublishStep s place key t → next s (Publish place key) ≡ Some t
  publish_given place key step = (λ i. tile_published s place key (step.at_head i) (step.runs i)) ∙ when_some (may_publish step.painter key) (with_tile s place key step.stroke step.painter) t (both_true _ _ step.in_job (not_false _ step.fresh)) step.new_is

  pub end_given : (place : ℕ) → EndStep s place t → next s (End place) ≡ Some t
  end_given place step = (λ i. ended s place (step.at_head i) (step.runs i)) ∙ when_some (is_painted step.painter) (without_painter s place step.stroke step.painter) t
      (pass_keys (λ k. list_any (same_key k) step.painter.published) (all_keys_of (writes step.painter.job)) step.all) step.new_is

  pub finish_given : FinishStep s t → next s Finish ≡ Some t
  finish_given step = ap (finished s) step.at_head ∙ when_some (may_finish s step.stroke) (after_finish s step.stroke (is_paint step.stroke.layer s.base)) t
      (both_true _ _ step.ended (both_true _ _ (not_false _ step.no_overlap) (implies _ _ (λ paint. (let b = step.all_ended paint in both_true _ _ (is_the_number _ _ b.0) b.1))))) step.new_is

  pub cancel_given : CancelStep s t → next s Cancel ≡ Some t
  cancel_given step = ap (cancelled s) step.at_head ∙ when_some (may_cancel s step.stroke) (after_cancel s step.stroke) t (both_true _ _ step.closed (both_true _ _ step.refused step.idle)) step.new_is

  pub act_given : ActStep s t → next s Act ≡ Some t
  act_given step = (λ i. acted s (step.no_stroke i) (step.at_head i)) ∙ when_some (may_act s step.entry) (after_entry s step.entry) t
      (both_true _ _ step.no_walks (implies _ _ (λ is. waits_nothing s.updates (step.clean (export_is step.entry is))))) step.new_is

  walk_start_given : (place : ℕ) (patch : Patch) → all_unlike s.updates ≡ true → WalkStartStep s place patch t → next s (WalkStart place patch) ≡ Some t
  walk_start_given place patch unlike step =
      let at : place_of patch s.updates ≡ step.i = found_at patch s.updates step.i unlike step.waits in
      (λ i. walk_started s place (at i) (slice_get s.updates (at i)) (step.free i)) ∙ ap (λ x. walk_started s place step.i x (Some Free)) step.waits
      ∙ when_some (may_walk s patch.rect) (with_walker s place step.i patch) t (both_true _ _ (not_false _ step.not_exclusive) (not_false _ step.avoids)) step.new_is

  walk_publish_given : (place g : ℕ) (key : Key) → WalkPublishStep s place g key t → next s (WalkPublish place g key) ≡ Some t
  walk_publish_given place g key step = ap (tile_composed s place g key) step.runs ∙ when_some (may_compose step.walker g key) (with_composed s place g key step.walker) t
      (both_true _ _ step.on_path (both_true _ _ step.in_patch (not_false _ step.fresh))) step.new_is

  pub walk_end_given : (place : ℕ) → WalkEndStep s place t → next s (WalkEnd place) ≡ Some t
  walk_end_given place step = ap (walk_ended s place) step.runs ∙ when_some (is_composed step.walker) (record s { slots = _ }) t
      (pass_groups _ (groups_of step.walker) (λ g on_path. pass_keys (λ k. list_any (same_pair g k) step.walker.published) (keys_of step.walker.patch.rect) (λ key. step.all g key on_path))) step.new_is

  step_given : (e : Event) → all_unlike s.updates ≡ true → Step s e t → next s e ≡ Some t
  step_given (Feed c) unlike step = when_some (may_follow (entries s.fed) c) (record s { fed = _ }) t step.0 step.1
  step_given Init unlike step = init_given step
  step_given (Start place) unlike step = start_given place step
  step_given (Publish place key) unlike step = publish_given place key step
  step_given (End place) unlike step = end_given place step
  step_given Finish unlike step = finish_given step
  step_given Cancel unlike step = cancel_given step
  step_given Act unlike step = act_given step
  step_given (WalkStart place patch) unlike step = walk_start_given place patch unlike step
  step_given (WalkPublish place g key) unlike step = walk_publish_given place g key step
  step_given (WalkEnd place) unlike step = walk_end_given place step

pub steps_are_next : StepsAreNext
steps_are_next = record {
  gives_step = λ s e t. gives_step s t e;
  step_given = λ s e t. step_given s t e;
  reached = λ events s e t is. step_given s t e (runs_are_orderly events s is).walking.queue.unlike;
}
