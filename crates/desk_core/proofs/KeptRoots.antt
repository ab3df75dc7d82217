-- Events that leave the root's cache at a point.
use Rattle.std.proofs.Common.{◌≡◌, ℕ, suc, zero, Bool, true, false, cond, eqb, Option, Some, None, Ok, Err}
use Rattle.std.proofs.Common.{List, [], ◌∷◌, take, refl, sym, ap, ◌∙◌, subst, arith}
use Rattle.std.specs.Prelude.{Result, map}
use Rattle.std.specs.List.{list_any}
use Rattle.std.proofs.lemmas.Bool.Decides.{nat_tests}
use Rattle.pixel_core.specs.Rgba.{Rgba}
use Rattle.geom_core.specs.Areas.{Point}
use Rattle.geom_core.specs.Grid.{Key}
use Rattle.doc_model.specs.declared.command.Outcome.TheVariants as outcome
use Rattle.doc_model.specs.declared.tree.TreeFault.{TreeFault}
use Rattle.doc_model.specs.Layers.{Layer, at, plain}
use Rattle.doc_model.specs.Shots.{in_tile}
use Rattle.doc_model.specs.Picture.{Doc}
use Rattle.doc_model.specs.Changes.{changed}
use Rattle.doc_model.specs.Strokes.{Stroke, Entry, Strokes, Changes, Undoes, Redoes, Purges, Exports}
use Rattle.whole_tiles.specs.Wholes.{Entire}
use Rattle.machine_model.specs.State.{Child, Reach, Whole, Part, State, Slot, Free, Paints, Walks}
use Rattle.machine_model.specs.Effects.{with_outcome, moved_to, after_entry, after_change, after_undo, after_redo, after_finish}
use Rattle.machine_model.specs.EffectLaws.{ComposesTile}
use Rattle.machine_model.specs.Event.{Event, Feed, Init, Start, Publish, End, Finish, Cancel, Act, WalkStart, WalkPublish, WalkEnd}
use Rattle.machine_model.specs.Groups.{cache}
use Rattle.machine_model.specs.Guards.{same_pair, is_paint}
use Rattle.machine_model.specs.Step.{Run, Step}
use Rattle.machine_model.proofs.EffectsHold.{walk_stays_in_tile}
use Rattle.filmed_caches.proofs.FilmedRoot.{root_kept}
use Rattle.slot_work.specs.LaidTiles.{lacking, pairs_at}
use Rattle.desk_state.specs.Choices.{is_done_at_once}
use Rattle.desk_state.specs.Enabled.{ends}
use Rattle.desk_events.specs.Commits.{lacking_at, pair_events}
use Rattle.desk_events.specs.SmallJobs.{small_events}
use Rattle.desk_core.specs.Commits.{Brings, commit_events}
use Rattle.desk_core.specs.declared.answers.Published.{Published}
use Rattle.desk_core.specs.declared.answers.Published.TheVariants as answers

module _ (p : Point) where
  -- the root's cache at the point
  abbrev pub root : State → Rgba
  root s = at (cache s.caches 0) p

  moved_root : (s : State) (d : Doc) (r : Reach) → root (moved_to s d r) ≡ root s
  moved_root s d Whole = ap (λ (l : Layer). at l p) (root_kept s.caches d)
  moved_root s d (Part layer keys) = refl

  change_root : (s : State) (r : Result Doc TreeFault) → root (after_change s r) ≡ root s
  change_root s (Err fault) = refl
  change_root s (Ok new) = moved_root (record (with_outcome s outcome.Done) { past = (s.base, Whole) ∷ s.past; future = [] }) new Whole

  undo_root : (s : State) (es : List (Doc × Reach)) → root (after_undo s es) ≡ root s
  undo_root s [] = refl
  undo_root s (e ∷ es) = moved_root (record (with_outcome s outcome.Done) { past = es; future = (s.base, e.1) ∷ s.future }) e.0 e.1

  redo_root : (s : State) (es : List (Doc × Reach)) → root (after_redo s es) ≡ root s
  redo_root s [] = refl
  redo_root s (e ∷ es) = moved_root (record (with_outcome s outcome.Done) { past = (s.base, e.1) ∷ s.past; future = es }) e.0 e.1

  act_root : (s : State) (entry : Entry) → root (after_entry s entry) ≡ root s
  act_root s (Strokes stroke) = refl
  act_root s (Changes change) = change_root s (changed plain change s.base)
  act_root s Undoes = undo_root s s.past
  act_root s Redoes = redo_root s s.future
  act_root s (Purges n) = refl
  act_root s Exports = refl

  finish_root : (s : State) (stroke : Stroke) (b : Bool) → root (after_finish s stroke b) ≡ root s
  finish_root s stroke true = refl
  finish_root s stroke false = refl

  -- whether the event may change the root's cache at the point
  abbrev pub touches : Event → Bool
  touches (WalkPublish place g key) = in_tile key p
  touches e = false

  pub step_root : (old new : State) (e : Event) → touches e ≡ false → Step old e new → root new ≡ root old
  step_root old new (Feed c) h step = ap root step.1
  step_root old new Init h step = ap root step.new_is
  step_root old new (Start place) h step = ap root step.new_is
  step_root old new (Publish place key) h step = ap root step.new_is
  step_root old new (End place) h step = ap root step.new_is
  step_root old new Finish h step = ap root step.new_is ∙ finish_root old step.stroke (is_paint step.stroke.layer old.base)
  step_root old new Cancel h step = ap root step.new_is
  step_root old new Act h step = ap root step.new_is ∙ act_root old step.entry
  step_root old new (WalkStart place patch) h step = ap root step.new_is
  step_root old new (WalkEnd place) h step = ap root step.new_is
  step_root old new (WalkPublish place g key) h step = go (eqb 0 g) refl
    where
      told : ComposesTile old new place g key
      told = walk_stays_in_tile old new place g key step

      go : (b : Bool) → eqb 0 g ≡ b → root new ≡ root old
      go true e = let is : g ≡ 0 = grind (arith, nat_tests) in subst (λ n. at (cache new.caches n) p ≡ at (cache old.caches n) p) is (told.out_of_tile p h)
      go false e = told.others 0 p (grind (arith, nat_tests))

  -- ---- one after another

  abbrev pub Untouched : List Event → Type 0
  Untouched [] = Unit {0}
  Untouched (e ∷ es) = (touches e ≡ false) × Untouched es

  pub run_root : (es : List Event) (old new : State) → Untouched es → Run old es new → root new ≡ root old
  run_root [] old new u run = ap root run
  run_root (e ∷ es) old new u run = run_root es run.0 new u.1 run.2 ∙ step_root old run.0 e u.0 run.1

  pub untouched_front : (n : ℕ) (es : List Event) → Untouched es → Untouched (take n es)
  untouched_front zero es u = tt
  untouched_front (suc n) [] u = tt
  untouched_front (suc n) (e ∷ es) u = (u.0, untouched_front n es u.1)

  pub brings_root : {E : Type 0} (May : Type 0) (es : List Event) (old : State) (r : Result Published E) (new : State)
      → Untouched es → Brings May es old r new → root new ≡ root old
  brings_root May es old (Ok answers.Stored) new u b = run_root es old new u b.1
  brings_root May es old (Ok answers.Nothing) new u b = ap root b.1
  brings_root May es old (Err e) new u b = run_root (take b.count es) old new (untouched_front b.count es u) b.run

  pub untouched_commit : (place : ℕ) (tiles : List Entire) → Untouched (commit_events place tiles)
  untouched_commit place [] = (refl, tt)
  untouched_commit place (x ∷ xs) = (refl, untouched_commit place xs)

  pub untouched_small : (place : ℕ) (key : Key) (n : ℕ) → Untouched (small_events place key n)
  untouched_small place key zero = tt
  untouched_small place key (suc n) = (refl, (refl, (refl, untouched_small place key n)))

  -- all pairs are of that tile
  abbrev pub OfKey : Key → List (ℕ × Key) → Type 0
  OfKey k [] = Unit {0}
  OfKey k (q ∷ ps) = (q.1 ≡ k) × OfKey k ps

  lacking_of_key : (published : List (ℕ × Key)) (gs : List ℕ) (k : Key) → OfKey k (lacking published (pairs_at gs k))
  lacking_of_key published [] k = tt
  lacking_of_key published (g ∷ gs) k = go (list_any (same_pair g k) published) (λ qs. lacking_of_key qs gs k)
    where
      go : (b : Bool) → ((qs : List (ℕ × Key)) → OfKey k (lacking qs (pairs_at gs k)))
          → OfKey k (cond b (lacking published (pairs_at gs k)) ((g, k) ∷ lacking ((g, k) ∷ published) (pairs_at gs k)))
      go true rest = rest published
      go false rest = (refl, rest ((g, k) ∷ published))

  pub row_of_key : (slot : Option Slot) (k : Key) → OfKey k (lacking_at slot k)
  row_of_key (Some (Walks w)) k = lacking_of_key w.published (map (λ (e : ℕ × List Child). e.0) w.shot) k
  row_of_key (Some Free) k = tt
  row_of_key (Some (Paints w)) k = tt
  row_of_key None k = tt

  pub untouched_pairs : (place : ℕ) (k : Key) (ps : List (ℕ × Key)) → in_tile k p ≡ false → OfKey k ps → Untouched (pair_events place ps)
  untouched_pairs place k [] out of = tt
  untouched_pairs place k (q ∷ ps) out of = (subst (λ m. in_tile m p ≡ false) (sym of.0) out, untouched_pairs place k ps out of.1)

  pub untouched_end : (place : ℕ) (e : Event) → ends place e ≡ true → touches e ≡ false
  untouched_end place (End q) h = refl
  untouched_end place (WalkEnd q) h = refl
  untouched_end place (Feed c) h = cc
  untouched_end place Init h = cc
  untouched_end place (Start q) h = cc
  untouched_end place (Publish q k) h = cc
  untouched_end place Finish h = cc
  untouched_end place Cancel h = cc
  untouched_end place Act h = cc
  untouched_end place (WalkStart q patch) h = cc
  untouched_end place (WalkPublish q g k) h = cc

  pub untouched_at_once : (e : Event) → is_done_at_once e ≡ true → touches e ≡ false
  untouched_at_once Init h = refl
  untouched_at_once Finish h = refl
  untouched_at_once Cancel h = refl
  untouched_at_once Act h = refl
  untouched_at_once (Feed c) h = cc
  untouched_at_once (Start q) h = cc
  untouched_at_once (Publish q k) h = cc
  untouched_at_once (End q) h = cc
  untouched_at_once (WalkStart q patch) h = cc
  untouched_at_once (WalkPublish q g k) h = cc
  untouched_at_once (WalkEnd q) h = cc
