-- What an event leaves has the outline that it leaves of the outline, and may happen just where it may there.
use Rattle.std.proofs.Common.{◌≡◌, ℕ, suc, zero, ◌≤◌, Bool, true, false, ◌&&◌, ◌||◌, not, Option, Some, None, Result, Ok, Err, List, [], ◌∷◌, ◌++◌, length, map, take, drop, refl, sym, ap, ◌∙◌, arith, eqb}
use Rattle.std.specs.Prelude.{slice_get, slice_set, replicate}
use Rattle.std.specs.Option.{option_map}
use Rattle.std.specs.List.{list_any}
use Rattle.std.specs.FinSet as set
use Rattle.std.proofs.lemmas.Bool.Decides.{nat_tests}
use Rattle.std.proofs.lemmas.Option.{slice_get-map}
use Rattle.std.proofs.lemmas.List.{take-map}
use Rattle.geom_core.proofs.Tests.{and_left, and_right}
use Rattle.geom_core.specs.Areas.{Area}
use Rattle.geom_core.specs.Grid.{Key, key_set}
use Rattle.geom_core.specs.Touches.{bound_of}
use Rattle.doc_model.specs.declared.canvas.Canvas.{Canvas}
use Rattle.doc_model.specs.declared.canvas.Patch.{Patch}
use Rattle.doc_model.specs.declared.command.Command.{Command}
use Rattle.doc_model.specs.declared.command.Outcome.{Outcome}
use Rattle.doc_model.specs.declared.command.Outcome.TheVariants as outcome
use Rattle.doc_model.specs.declared.tree.TreeFault.{TreeFault}
use Rattle.doc_model.specs.declared.job.Job.{Job}
use Rattle.doc_model.specs.declared.job.Kind.{Kind}
use Rattle.doc_model.specs.Layers.{plain}
use Rattle.doc_model.specs.Jobs.{writes}
use Rattle.doc_model.specs.Shots.{published}
use Rattle.doc_model.specs.Changes.{changed}
use Rattle.doc_model.specs.Forest.{none}
use Rattle.doc_model.specs.Kept.{kept}
use Rattle.doc_model.specs.Lawful.{may_follow}
use Rattle.doc_model.specs.Picture.{Doc, canvas_area}
use Rattle.doc_model.specs.Strokes as doc
use Rattle.doc_model.specs.Strokes.{Stroke, Fate, Open, Ended, Cancelled, Jobs, Strokes, Changes, Undoes, Redoes, Purges, Exports, entries, conflict}
use Rattle.doc_model.proofs.Feeding.{lawful_last}
use Rattle.entry_queue.specs.Pushed.{queued, pushed}
use Rattle.entry_queue.proofs.Standing.{stands_pushed}
use Rattle.update_queue.specs.Waiting.{waiting as patches_of, widened_by}
use Rattle.machine_model.specs.State as state
use Rattle.machine_model.specs.State.{State, Reach, Child, Free, Paints, Walks, waiting, first, stroke_of, head_stroke, new_state}
use Rattle.machine_model.specs.Event.{Feed, Init, Start, Publish, End, Finish, Cancel, Act, WalkStart, WalkPublish, WalkEnd}
use Rattle.machine_model.specs.Told.{Told}
use Rattle.machine_model.specs.Slots as model
use Rattle.machine_model.specs.Guards as guard
use Rattle.machine_model.specs.Guards.{is_paint, is_bar, kept_jobs, is_closed, is_cancelled, is_ended, overlaps}
use Rattle.machine_model.specs.Groups.{parent_of, path_of}
use Rattle.machine_model.specs.Walks.{walk_shot, shots_of}
use Rattle.machine_model.specs.Effects as effect
use Rattle.machine_model.specs.Effects.{updates_with, updates_with_all, started_jobs, with_outcome, no_paint_outcome, cancel_outcome, writes_of}
use Rattle.machine_model.specs.Next as next
use Rattle.machine_model.specs.Next.{next as after, when, is_number, is_clear}
use Rattle.machine_model.specs.Replays as replay
use Rattle.machine_model.specs.Replays.{first_of}
use Rattle.trace_state.specs.declared.history.Reach.TheVariants as reach
use Rattle.trace_state.specs.declared.slot.Slot.TheVariants as slot
use Rattle.trace_state.specs.Histories.{former}
use Rattle.trace_state.specs.Trees.{paints, group_of, tree_path}
use Rattle.trace_state.specs.Tiles.{round}
use Rattle.entry_queue.specs.Heads.{jobs_in}
use Rattle.entry_queue.proofs.Heads.{told, head_told, jobs_told}
use Rattle.trace_state.specs.Waits.{other_in, is_done}
use Rattle.trace_state.specs.Painting.{lacks_tile, with_tile}
use Rattle.trace_state.specs.Walking.{lacks_pair, with_pair}
use Rattle.trace_state.specs.Slots.{is_free, is_painter, is_walker, blocks, meets_walker}
use Rattle.trace_core.specs.Outline.{Outline, outline, shape, former_of, reach_of, slot_of, walked_group}
use Rattle.trace_core.specs.Moves as move
use Rattle.trace_core.proofs.DocShapes.{paints_shape, group_shape, walk_shape, adjusted_shape, shape_result, changed_shape}
use Rattle.trace_core.proofs.HeadOutlines.{other_stroke, left_popped, all_kept}
use Rattle.trace_core.proofs.SlotOutlines.{any_slots, all_slots, set_slots, free_slot, painter_slot, walker_slot, blocks_slot, meets_slot, painting, lacks_told, painted_told, walking, lacks_pair_told, with_pair_told, composed_told, unpublished_groups}

-- two tests that agree, of what is one where they pass
when_told : {A B : Type 0} (f : A → B) (b c : Bool) (x : A) (y : B) → b ≡ c → (b ≡ true → f x ≡ y) → option_map f (when b x) ≡ when c y
when_told f true c x y e h = ap Some (h refl) ∙ ap (λ d. when d y) e
when_told f false c x y e h = ap (λ d. when d y) e

-- what is made of the value is made where the test passes
pub when_in : {A B : Type 0} (f : A → B) (b : Bool) (x : A) → when b (f x) ≡ option_map f (when b x)
when_in f true x = refl
when_in f false x = refl

first_told : {A B : Type 0} (f : A → B) (a b : Option A) → option_map f (first_of a b) ≡ first_of (option_map f a) (option_map f b)
first_told f None b = refl
first_told f (Some x) b = refl

no_painter_told : (s : State) → move.no_painter (outline s) ≡ model.no_painter s
no_painter_told s = ap not (any_slots is_painter model.is_painter painter_slot s.slots)

no_walker_told : (s : State) → move.no_walker (outline s) ≡ model.no_walker s
no_walker_told s = ap not (any_slots is_walker model.is_walker walker_slot s.slots)

-- a command is fed
pub fed_told : (s : State) (c : Command) → Told s → option_map outline (after s (Feed c)) ≡ move.fed (outline s) c
fed_told s c is = when_told outline (may_follow (entries s.fed) c) (may_follow (entries s.fed) c) _ _ refl (λ may i. record (outline s) { fed = s.fed ++ c ∷ []; left = left may i })
  where
    left : may_follow (entries s.fed) c ≡ true → map queued (drop (length s.outcomes) (entries (s.fed ++ c ∷ []))) ≡ pushed (map queued (waiting s)) c
    left may = sym (stands_pushed s.fed c (record { left = map queued (waiting s); outcomes = s.outcomes }) (lawful_last s.fed c is.lawful may) (record { left_is = refl; few = is.few; closed = is.closed })).left_is

-- the stroke at the head begins
pub begun_told : (s : State) → option_map outline (after s Init) ≡ move.begun (outline s)
begun_told s = go (head_stroke s) s.way ∙ ap (λ h. move.begun_by (outline s) h s.way) (sym (head_told (waiting s)))
  where
    go : (h : Option Stroke) (way : Option ℕ) → option_map outline (next.begun s h way) ≡ move.begun_by (outline s) (option_map told h) way
    go (Some t) None = when_told outline (next.may_begin s t) (move.may_begin (outline s) (told t)) _ _ (λ i. next.is_alive t && (sym (paints_shape t.layer s.base) i && (not t.exclusive || sym (no_walker_told s) i))) (λ _. refl)
    go (Some t) (Some n) = refl
    go None way = refl

-- a job starts
pub started_told : (s : State) (place : ℕ) → option_map outline (after s (Start place)) ≡ move.started (outline s) place
started_told s place = go (head_stroke s) refl s.way (slice_get s.slots place) ∙ (λ i. move.started_by (outline s) place (sym (head_told (waiting s)) i) s.way (sym (slice_get-map slot_of s.slots place) i))
  where
    test : (t : Stroke) → head_stroke s ≡ Some t → (job : Kind × Job) → next.may_start s t job ≡ move.may_start (outline s) (told t) job.0
    test t e job = λ i. next.is_alive t && (not (beside i) && (not (is_bar job.0) || (t.exclusive || (sym (no_walker_told s) i && is_clear s.updates))))
      where
        beside : list_any (guard.blocks (kept_jobs t) job.0) s.slots ≡ list_any (blocks (jobs_in (map queued (waiting s))) job.0) (map slot_of s.slots)
        beside = sym (any_slots (blocks (kept_jobs t) job.0) (guard.blocks (kept_jobs t) job.0) (blocks_slot (kept_jobs t) job.0) s.slots)
            ∙ ap (λ js. list_any (blocks js job.0) (map slot_of s.slots)) (sym (jobs_told (waiting s) t e))

    job_go : (t : Stroke) → head_stroke s ≡ Some t → (n : ℕ) (j : Option (Kind × Job)) → option_map outline (next.job_started s place t n j) ≡ move.job_started (outline s) place (told t) n j
    job_go t e n None = refl
    job_go t e n (Some job) = when_told outline (next.may_start s t job) (move.may_start (outline s) (told t) job.0) _ _ (test t e job)
        (λ _ i. record (outline s) { way = Some (suc n); slots = set_slots s.slots place (next.new_painter s t n job.1) i })

    go : (h : Option Stroke) → head_stroke s ≡ h → (way : Option ℕ) (x : Option state.Slot) → option_map outline (next.started s place h way x) ≡ move.started_by (outline s) place (option_map told h) way (option_map slot_of x)
    go (Some t) e (Some n) (Some Free) = job_go t e n (slice_get (kept_jobs t) n) ∙ ap (λ js. move.job_started (outline s) place (told t) n (slice_get js n)) (sym (jobs_told (waiting s) t e))
    go (Some t) e (Some n) (Some (Paints w)) = refl
    go (Some t) e (Some n) (Some (Walks w)) = refl
    go (Some t) e (Some n) None = refl
    go (Some t) e None x = refl
    go None e way x = refl

-- a tile is published
pub published_told : (s : State) (place : ℕ) (key : Key) → option_map outline (after s (Publish place key)) ≡ move.published (outline s) place key
published_told s place key = go (head_stroke s) (slice_get s.slots place) ∙ (λ i. move.published_by (outline s) place key (sym (head_told (waiting s)) i) (sym (slice_get-map slot_of s.slots place) i))
  where
    go : (h : Option Stroke) (x : Option state.Slot) → option_map outline (next.tile_published s place key h x) ≡ move.published_by (outline s) place key (option_map told h) (option_map slot_of x)
    go (Some t) (Some (Paints w)) = when_told outline (next.may_publish w key) (lacks_tile (painting w) key) (next.with_tile s place key t w) (move.with_slot (outline s) place (slot.Paints (with_tile (painting w) key))) (sym (lacks_told w key))
        (λ _ i. record (outline s) { present = adjusted_shape t.layer (published w.job w.shot key) s.present i; slots = set_slots s.slots place (Paints (record w { published = key ∷ w.published })) i })
        ∙ when_in (move.with_slot (outline s) place) (lacks_tile (painting w) key) (slot.Paints (with_tile (painting w) key))
    go (Some t) (Some Free) = refl
    go (Some t) (Some (Walks w)) = refl
    go (Some t) None = refl
    go None x = refl

-- a job ends
pub ended_told : (s : State) (place : ℕ) → option_map outline (after s (End place)) ≡ move.ended (outline s) place
ended_told s place = go (head_stroke s) (slice_get s.slots place) ∙ (λ i. move.ended_by (outline s) place (sym (head_told (waiting s)) i) (sym (slice_get-map slot_of s.slots place) i))
  where
    go : (h : Option Stroke) (x : Option state.Slot) → option_map outline (next.ended s place h x) ≡ move.ended_by (outline s) place (option_map told h) (option_map slot_of x)
    go (Some t) (Some (Paints w)) = when_told outline (next.is_painted w) _ _ _ (sym (painted_told w))
        (λ _ i. record (outline s) { slots = set_slots s.slots place Free i; updates = patches_of (canvas_area s.canvas) (updates_with_all (canvas_area s.canvas) (sym (group_shape t.layer s.present) i) (writes w.job) s.updates) })
    go (Some t) (Some Free) = refl
    go (Some t) (Some (Walks w)) = refl
    go (Some t) None = refl
    go None x = refl

-- a walk ends
pub walk_ended_told : (s : State) (place : ℕ) → option_map outline (after s (WalkEnd place)) ≡ move.walk_ended (outline s) place
walk_ended_told s place = go (slice_get s.slots place) ∙ ap (move.walk_ended_by (outline s) place) (sym (slice_get-map slot_of s.slots place))
  where
    go : (x : Option state.Slot) → option_map outline (next.walk_ended s place x) ≡ move.walk_ended_by (outline s) place (option_map slot_of x)
    go (Some (Walks w)) = when_told outline (next.is_composed w) _ _ _ (sym (composed_told w)) (λ _ i. record (outline s) { slots = set_slots s.slots place Free i })
    go (Some Free) = refl
    go (Some (Paints w)) = refl
    go None = refl

pub work_ended_told : (s : State) (place : ℕ) → option_map outline (replay.work_ended s place) ≡ move.work_ended (outline s) place
work_ended_told s place = first_told outline (after s (End place)) (after s (WalkEnd place)) ∙ (λ i. first_of (ended_told s place i) (walk_ended_told s place i))

-- a tile of a group is composed
pub composed_one_told : (s : State) (place g : ℕ) (key : Key) → option_map outline (after s (WalkPublish place g key)) ≡ move.composed (outline s) place g key
composed_one_told s place g key = go (slice_get s.slots place) ∙ ap (move.composed_by (outline s) place g key) (sym (slice_get-map slot_of s.slots place))
  where
    go : (x : Option state.Slot) → option_map outline (next.tile_composed s place g key x) ≡ move.composed_by (outline s) place g key (option_map slot_of x)
    go (Some (Walks w)) = when_told outline (next.may_compose w g key) (lacks_pair (walking w) g key) (next.with_composed s place g key w) (move.with_slot (outline s) place (slot.Walks (with_pair (walking w) g key))) (sym (lacks_pair_told w g key))
        (λ _. ap (λ xs. record (outline s) { slots = xs }) (set_slots s.slots place (Walks (record w { published = (g, key) ∷ w.published })) ∙ ap (λ v. slice_set (map slot_of s.slots) place (slot.Walks v)) (with_pair_told w g key)))
        ∙ when_in (move.with_slot (outline s) place) (lacks_pair (walking w) g key) (slot.Walks (with_pair (walking w) g key))
    go (Some Free) = refl
    go (Some (Paints w)) = refl
    go None = refl

shot_groups : (s : State) (rect : Area) (gs : List ℕ) → map (λ (e : ℕ × List Child). e.0) (shots_of s rect gs) ≡ gs
shot_groups s rect [] = refl
shot_groups s rect (g ∷ gs) = ap (λ t. g ∷ t) (shot_groups s rect gs)

-- a walk starts
pub walk_started_told : (s : State) (place : ℕ) (patch : Patch) → option_map outline (after s (WalkStart place patch)) ≡ move.walk_started (outline s) place patch
walk_started_told s place patch = go (next.place_of patch s.updates) (slice_get s.updates (next.place_of patch s.updates)) (slice_get s.slots place) ∙ ap (move.walk_started_by (outline s) place (next.place_of patch s.updates) (slice_get s.updates (next.place_of patch s.updates))) (sym (slice_get-map slot_of s.slots place))
  where
    exclusive : (h : Option Stroke) (way : Option ℕ) → guard.is_exclusive h way ≡ move.is_exclusive (option_map told h) way
    exclusive (Some t) (Some n) = refl
    exclusive (Some t) None = refl
    exclusive None way = refl

    test : (rect : Area) → next.may_walk s rect ≡ move.may_walk (outline s) rect
    test rect = λ i. not ((exclusive (head_stroke s) s.way ∙ ap (λ h. move.is_exclusive h s.way) (sym (head_told (waiting s)))) i) && not (sym (any_slots (meets_walker rect) (guard.meets_walker rect) (meets_slot rect) s.slots) i)

    groups : (p : Patch) → map (walked_group []) (map (λ (e : ℕ × List Child). e.0) (walk_shot s p)) ≡ map (λ g. record { group = g; published = set.empty }) (tree_path p.walk (shape s.present))
    groups p = ap (map (walked_group [])) (shot_groups s p.rect (path_of p.walk s.present) ∙ sym (walk_shape p.walk s.present)) ∙ unpublished_groups (tree_path p.walk (shape s.present))

    go : (i : ℕ) (p : Option Patch) (x : Option state.Slot) → option_map outline (next.walk_started s place i p x) ≡ move.walk_started_by (outline s) place i p (option_map slot_of x)
    go i (Some p) (Some Free) = when_told outline (next.may_walk s p.rect) _ _ _ (test p.rect)
        (λ _. ap (λ xs. record (outline s) { updates = patches_of (canvas_area s.canvas) (take i s.updates ++ drop (suc i) s.updates); slots = xs })
        (set_slots s.slots place (next.new_walker s p) ∙ ap (λ gs. slice_set (map slot_of s.slots) place (slot.Walks (record { patch = p; groups = gs }))) (groups p)))
    go i (Some p) (Some (Paints w)) = refl
    go i (Some p) (Some (Walks w)) = refl
    go i (Some p) None = refl
    go i None x = refl

-- the entry at the head leaves the queue
popped_told : (s : State) (o : Outcome) → map queued (drop (length (s.outcomes ++ o ∷ [])) (entries s.fed)) ≡ drop 1 (map queued (waiting s))
popped_told s o = left_popped s.outcomes o (entries s.fed)

-- what waits after a rectangle or none
widened_told : (s : State) (g : ℕ) (b : Option Area) → patches_of (canvas_area s.canvas) (updates_with s g b) ≡ widened_by (patches_of (canvas_area s.canvas) s.updates) g b
widened_told s g None = refl
widened_told s g (Some rect) = refl

-- a stroke finishes
pub finished_told : (s : State) → option_map outline (after s Finish) ≡ move.finished (outline s)
finished_told s = go (head_stroke s) refl ∙ ap (move.finished_by (outline s)) (sym (head_told (waiting s)))
  where
    fates : (t : Stroke) (f : Fate) → is_ended (record t { fate = f }) ≡ (is_closed (record t { fate = f }) && not (is_cancelled (record t { fate = f })))
    fates t Open = refl
    fates t Ended = refl
    fates t Cancelled = refl

    test_by : (t : Stroke) (b : Bool) → overlaps t ≡ b → (is_ended t && (not b && (not (is_paint t.layer s.base) || (is_number (length t.jobs) s.way && model.no_painter s)))) ≡ ((is_closed t && not (is_cancelled t)) && (not b && (not (paints t.layer (shape s.base)) || (is_number (length (kept t.jobs)) s.way && move.no_painter (outline s)))))
    test_by t true e = ap (λ d. d && false) (fates t t.fate)
    test_by t false e = λ i. fates t t.fate i && (not (sym (paints_shape t.layer s.base) i) || (is_number (length (sym (all_kept t e) i)) s.way && sym (no_painter_told s) i))

    test : (t : Stroke) → next.may_finish s t ≡ move.may_finish (outline s) (told t)
    test t = test_by t (overlaps t) refl

    clear : (t : Stroke) → next.may_finish s t ≡ true → overlaps t ≡ false
    clear t e = flip (overlaps t) (and_left (not (overlaps t)) _ (and_right (is_ended t) _ e))
      where
        flip : (b : Bool) → not b ≡ true → b ≡ false
        flip true h = cc
        flip false h = refl

    round_told : (t : Stroke) → head_stroke s ≡ Some t → overlaps t ≡ false → bound_of (set.items (key_set (writes_of t.jobs))) ≡ round (jobs_in (map queued (waiting s)))
    round_told t e h = ap round (sym (all_kept t h) ∙ sym (jobs_told (waiting s) t e))

    leaves : (t : Stroke) → head_stroke s ≡ Some t → overlaps t ≡ false → (b : Bool) → outline (effect.after_finish s t b) ≡ move.after_finish (outline s) (told t) b
    leaves t e h false = λ i. record (outline s) { left = popped_told s (no_paint_outcome t.layer s.base) i }
    leaves t e h true = λ i. record (outline s) {
      past = former (shape s.base) (reach.Part t.layer (round_told t e h i)) ∷ map former_of s.past;
      future = [];
      base = shape s.present;
      left = popped_told s outcome.Done i;
      way = None;
    }

    go : (h : Option Stroke) → head_stroke s ≡ h → option_map outline (next.finished s h) ≡ move.finished_by (outline s) (option_map told h)
    go None e = refl
    go (Some t) e = when_told outline (next.may_finish s t) (move.may_finish (outline s) (told t)) _ _ (test t)
        (λ may. leaves t e (clear t may) (is_paint t.layer s.base) ∙ ap (move.after_finish (outline s) (told t)) (sym (paints_shape t.layer s.base)))

-- a stroke leaves nothing
pub cancelled_told : (s : State) → option_map outline (after s Cancel) ≡ move.cancelled (outline s)
cancelled_told s = go (head_stroke s) refl ∙ ap (move.cancelled_by (outline s)) (sym (head_told (waiting s)))
  where
    started_by : (t : Stroke) (w : Option ℕ) → started_jobs (record s { way = w }) t ≡ move.started_of (kept_jobs t) w
    started_by t None = refl
    started_by t (Some n) = refl

    waits : (t : Stroke) → head_stroke s ≡ Some t → patches_of (canvas_area s.canvas) (updates_with s (parent_of t.layer s.present) (bound_of (set.items (key_set (writes_of (started_jobs s t))))))
        ≡ widened_by (patches_of (canvas_area s.canvas) s.updates) (group_of t.layer (shape s.present)) (round (move.started_of (jobs_in (map queued (waiting s))) s.way))
    waits t e = widened_told s (parent_of t.layer s.present) _
        ∙ (λ i. widened_by (patches_of (canvas_area s.canvas) s.updates) (sym (group_shape t.layer s.present) i) (round ((started_by t s.way ∙ ap (λ js. move.started_of js s.way) (sym (jobs_told (waiting s) t e))) i)))

    go : (h : Option Stroke) → head_stroke s ≡ h → option_map outline (next.cancelled s h) ≡ move.cancelled_by (outline s) (option_map told h)
    go None e = refl
    go (Some t) e = when_told outline (next.may_cancel s t) (move.may_cancel (outline s) (told t)) _ _ (λ i. is_closed t && ((is_cancelled t || overlaps t) && sym (no_painter_told s) i))
        (λ _ i. record (outline s) { present = shape s.base; left = popped_told s (cancel_outcome (conflict t.jobs)) i; way = None; updates = waits t e i })

-- the document becomes another
moved_told : (s : State) (new : Doc) (r : Reach) → outline (effect.moved_to s new r) ≡ move.moved_to (outline s) (shape new) (reach_of r)
moved_told s new state.Whole = refl
moved_told s new (state.Part id keys) = λ i. record (outline s) { base = shape new; present = shape new; updates = (widened_told s (parent_of id new) (bound_of (set.items keys)) ∙ ap (λ g. widened_by (patches_of (canvas_area s.canvas) s.updates) g (bound_of (set.items keys))) (sym (group_shape id new))) i }

-- the outline once the entry at the head, which is no stroke, has left the queue
abbrev rest : State → Outline
rest s = record (move.popped (outline s)) { present = (outline s).base }

rest_told : (s : State) (o : Outcome) → outline (with_outcome s o) ≡ rest s
rest_told s o = λ i. record (outline s) { present = shape s.base; left = popped_told s o i }

changed_told : (s : State) (r : Result Doc TreeFault) → outline (effect.after_change s r) ≡ move.after_change (rest s) (shape_result r)
changed_told s (Err fault) = rest_told s (outcome.Tree fault)
changed_told s (Ok new) = moved_told (record (with_outcome s outcome.Done) { past = (s.base, state.Whole) ∷ s.past; future = [] }) new state.Whole
    ∙ (λ i. move.moved_to (record (rest_told s outcome.Done i) { past = former (shape s.base) reach.Whole ∷ map former_of s.past; future = [] }) (shape new) reach.Whole)

undone_told : (s : State) (p : List (Doc × Reach)) → outline (effect.after_undo s p) ≡ move.after_undo (rest s) (map former_of p)
undone_told s [] = rest_told s outcome.NothingToUndo
undone_told s (e ∷ p) = moved_told (record (with_outcome s outcome.Done) { past = p; future = (s.base, e.1) ∷ s.future }) e.0 e.1
    ∙ (λ i. move.moved_to (record (rest_told s outcome.Done i) { past = map former_of p; future = former (shape s.base) (reach_of e.1) ∷ map former_of s.future }) (shape e.0) (reach_of e.1))

redone_told : (s : State) (p : List (Doc × Reach)) → outline (effect.after_redo s p) ≡ move.after_redo (rest s) (map former_of p)
redone_told s [] = rest_told s outcome.NothingToRedo
redone_told s (e ∷ p) = moved_told (record (with_outcome s outcome.Done) { past = (s.base, e.1) ∷ s.past; future = p }) e.0 e.1
    ∙ (λ i. move.moved_to (record (rest_told s outcome.Done i) { past = former (shape s.base) (reach_of e.1) ∷ map former_of s.past; future = map former_of p }) (shape e.0) (reach_of e.1))

-- an entry that is no stroke takes effect
pub acted_told : (s : State) → option_map outline (after s Act) ≡ move.acted (outline s)
acted_told s = go (waiting s)
  where
    test : (b : Bool) → (model.no_walker s && (not b || is_clear s.updates)) ≡ (move.no_walker (outline s) && (not b || is_clear s.updates))
    test b = ap (λ d. d && (not b || is_clear s.updates)) (sym (no_walker_told s))

    go : (es : List doc.Entry) → option_map outline (next.acted s (stroke_of (first es)) (first es)) ≡ move.acted_by (outline s) (other_in (map queued es))
    go [] = refl
    go (Strokes t ∷ es) = ap (move.acted_by (outline s)) (sym (other_stroke t (map queued es)))
    go (Changes change ∷ es) = when_told outline (next.may_act s (Changes change)) _ _ _ (test false) (λ _. changed_told s (changed plain change s.base) ∙ ap (move.after_change (rest s)) (sym (changed_shape change s.base)))
    go (Undoes ∷ es) = when_told outline (next.may_act s Undoes) _ _ _ (test false) (λ _. undone_told s s.past)
    go (Redoes ∷ es) = when_told outline (next.may_act s Redoes) _ _ _ (test false) (λ _. redone_told s s.future)
    go (Purges n ∷ es) = when_told outline (next.may_act s (Purges n)) _ _ _ (test false)
        (λ _ i. record (rest_told s outcome.Done i) { past = sym (take-map former_of n s.past) i })
    go (Exports ∷ es) = when_told outline (next.may_act s Exports) _ _ _ (test true) (λ _. rest_told s outcome.Done)

pub stepped_told : (s : State) → option_map outline (replay.stepped s) ≡ move.stepped (outline s)
stepped_told s = first_told outline (after s Init) _
    ∙ (λ i. first_of (begun_told s i) ((first_told outline (after s Finish) _ ∙ (λ j. first_of (finished_told s j) ((first_told outline (after s Cancel) (after s Act) ∙ (λ k. first_of (cancelled_told s k) (acted_told s k))) j))) i))

-- nothing is left to do
pub settled_told : (s : State) → Told s → replay.is_settled s ≡ move.is_settled (outline s)
settled_told s is = λ i. done (length s.outcomes) (entries s.fed) is.few i && (sym (all_slots is_free state.is_free free_slot s.slots) i && is_clear s.updates)
  where
    one_less : (n m : ℕ) → eqb (suc n) (suc m) ≡ eqb n m
    one_less n m = go (eqb n m) refl
      where
        go : (b : Bool) → eqb n m ≡ b → eqb (suc n) (suc m) ≡ b
        go true e = grind (arith, nat_tests)
        go false e = grind (arith, nat_tests)

    done : (n : ℕ) (es : List doc.Entry) → n ≤ length es → eqb n (length es) ≡ is_done (map queued (drop n es))
    done zero [] h = refl
    done zero (e ∷ es) h = grind (arith, nat_tests)
    done (suc n) [] h = absurd (omega arith)
    done (suc n) (e ∷ es) h = one_less n (length es) ∙ done n es (omega arith)

-- nothing was fed
pub new_slots : (c : Canvas) (n : ℕ) → map slot_of (new_state c n).slots ≡ replicate n slot.Free
new_slots c zero = refl
new_slots c (suc n) = ap (λ t. slot.Free ∷ t) (new_slots c n)

pub new_outline : (o : Outline) (c : Canvas) (n : ℕ) → o.area ≡ canvas_area c → o.fed ≡ [] → o.left ≡ [] → o.past ≡ [] → o.future ≡ [] → o.base ≡ none → o.present ≡ none → o.way ≡ None → o.updates ≡ patches_of (canvas_area c) [] → o.slots ≡ replicate n slot.Free
    → o ≡ outline (new_state c n)
new_outline o c n area fed left past future base present way updates slots = λ i. record {
  area = area i;
  fed = fed i;
  left = left i;
  past = past i;
  future = future i;
  base = base i;
  present = present i;
  way = way i;
  updates = updates i;
  slots = (slots ∙ sym (new_slots c n)) i;
}
