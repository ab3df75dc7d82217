-- Pixels tell nothing of which events may happen, and of what else they leave.
use Rattle.std.proofs.Common.{◌≡◌, ℕ, suc, zero, Bool, true, false, ◌&&◌, ◌||◌, not, cond, Option, Some, None, is_some, Result, Ok, Err, List, [], ◌∷◌, ◌++◌, length, map, take, drop, refl, sym, ap, ◌∙◌, eqb}
use Rattle.std.specs.Prelude.{slice_get, slice_set}
use Rattle.std.specs.Option.{option_map, unwrap_or}
use Rattle.std.specs.List.{list_any, list_all}
use Rattle.std.specs.FinMap as map
use Rattle.std.specs.FinSet as set
use Rattle.std.proofs.lemmas.Option.{slice_get-map}
use Rattle.geom_core.specs.Areas.{Area}
use Rattle.geom_core.specs.Grid.{Key, key_set, same_key, keys_of}
use Rattle.pixel_core.specs.Rgba.{clear}
use Rattle.doc_model.specs.declared.job.Job.{Job}
use Rattle.doc_model.specs.declared.job.Kind.{Kind}
use Rattle.doc_model.specs.declared.canvas.Patch.{Patch}
use Rattle.doc_model.specs.declared.canvas.Walk.{Walk}
use Rattle.doc_model.specs.declared.canvas.Walk.TheVariants.{Up, All}
use Rattle.doc_model.specs.declared.tree.Change.{Change}
use Rattle.doc_model.specs.declared.tree.TreeFault.{TreeFault}
use Rattle.doc_model.specs.declared.command.Outcome.{Outcome}
use Rattle.doc_model.specs.declared.command.Outcome.TheVariants.{Done}
use Rattle.doc_model.specs.Layers.{Layer, plain}
use Rattle.doc_model.specs.Forest.{none, paint, group, or_else}
use Rattle.doc_model.specs.Adjusting.{adjusted}
use Rattle.doc_model.specs.Each.{each}
use Rattle.doc_model.specs.Readers.{path, order}
use Rattle.doc_model.specs.Jobs.{writes}
use Rattle.doc_model.specs.Shots.{published}
use Rattle.doc_model.specs.Lawful.{may_follow}
use Rattle.doc_model.specs.Strokes.{is_export, Stroke, Entry, Strokes, Changes, Undoes, Redoes, Purges, Exports, entries, conflict}
use Rattle.doc_model.specs.declared.command.Command.{Command}
use Rattle.doc_model.specs.Picture.{Doc, canvas_area}
use Rattle.doc_model.specs.Changes.{changed}
use Rattle.doc_model.specs.Updates.{refreshed}
use Rattle.machine_model.specs.State.{Reach, Whole, Part, Child, Walker, Slot, Free, Paints, Walks, State, waiting, first, head, stroke_of, head_stroke, is_free}
use Rattle.machine_model.specs.Event.{Event, Feed, Init, Start, Publish, End, Finish, Cancel, Act, WalkStart, WalkPublish, WalkEnd}
use Rattle.machine_model.specs.Slots.{is_painter, is_walker, no_painter, no_walker}
use Rattle.machine_model.specs.Groups.{on, path_of, parent_of}
use Rattle.machine_model.specs.Guards.{is_paint, blocks, is_bar, is_exclusive, is_ended, is_closed, is_cancelled, overlaps, meets_walker, kept_jobs, same_pair}
use Rattle.machine_model.specs.Walks.{walk_shot, shots_of}
use Rattle.machine_model.specs.Effects.{bound_of, reach_of, writes_of, started_jobs, updates_with, updates_with_all, with_outcome, after_change, after_undo, after_redo, after_entry, after_finish, no_paint_outcome, cancel_outcome, without_nth}
use Rattle.machine_model.specs.Next.{next, when, begun, started, job_started, tile_published, ended, finished, cancelled, acted, walk_started, tile_composed, walk_ended, is_clear, is_number, may_begin, may_act, may_start, may_publish, may_finish, may_cancel, may_compose, is_painted, is_composed, new_painter, with_painter, with_tile, without_painter, after_cancel, new_walker, with_walker, with_composed, is_alive, may_walk, place_of}
use Rattle.machine_model.specs.Replays.{is_settled, first_of}
use Rattle.machine_model.specs.Blank.{blank, blank_doc, blank_entry, blank_group, blank_slot}
use Rattle.machine_model.specs.BlankLaws.{PixelsDontCount}
use Rattle.doc_model.proofs.Natural.{has_each, parent_each, changed_each, with_contents, after}
use Rattle.geom_core.proofs.Tests.{cond_same, length_map}

-- documents

-- contents that all are one are so again
blank_each : (g : ℕ → Layer → Layer) (f : Doc) → blank_doc (each g f) ≡ blank_doc f
blank_each g none = refl
blank_each g (paint id look x rest) = ap (paint id look (plain clear)) (blank_each g rest)
blank_each g (group id look nodes rest) = λ i. group id look (blank_each g nodes i) (blank_each g rest i)

blank_twice : (f : Doc) → blank_doc (blank_doc f) ≡ blank_doc f
blank_twice f = blank_each (λ id layer. plain clear) f

blank_adjusted : (q : ℕ) (change : Layer → Layer) (f : Doc) → blank_doc (adjusted q change f) ≡ blank_doc f
blank_adjusted q change none = refl
blank_adjusted q change (paint id look x rest) = ap (paint id look (plain clear)) (blank_adjusted q change rest)
blank_adjusted q change (group id look nodes rest) = λ i. group id look (blank_adjusted q change nodes i) (blank_adjusted q change rest i)

some_cond : {A B : Type 0} (b : Bool) (x : A) (y : B) (o : Option A) (p : Option B) → is_some o ≡ is_some p → is_some (cond b (Some x) o) ≡ is_some (cond b (Some y) p)
some_cond true x y o p e = refl
some_cond false x y o p e = e

some_or : {A B : Type 0} (a b : Option A) (c d : Option B) → is_some a ≡ is_some c → is_some b ≡ is_some d → is_some (or_else a b) ≡ is_some (or_else c d)
some_or None b None d e f = f
some_or None b (Some y) d e f = cc
some_or (Some x) b None d e f = cc
some_or (Some x) b (Some y) d e f = refl

is_paint_blank : (q : ℕ) (f : Doc) → is_paint q (blank_doc f) ≡ is_paint q f
is_paint_blank q none = refl
is_paint_blank q (paint id look x rest) = some_cond (eqb q id) (plain clear) x _ _ (is_paint_blank q rest)
is_paint_blank q (group id look nodes rest) = some_or _ _ _ _ (is_paint_blank q nodes) (is_paint_blank q rest)

path_blank : (q : ℕ) (f : Doc) → path q (blank_doc f) ≡ path q f
path_blank q none = refl
path_blank q (paint id look x rest) = cond_same {b = eqb q id} refl refl (path_blank q rest)
path_blank q (group id look nodes rest) = cond_same {b = eqb q id} refl refl (cond_same (has_each (λ id layer. plain clear) q nodes) (λ i. path_blank q nodes i ++ id ∷ []) (path_blank q rest))

order_blank : (f : Doc) → order (blank_doc f) ≡ order f
order_blank none = refl
order_blank (paint id look x rest) = order_blank rest
order_blank (group id look nodes rest) = λ i. order_blank nodes i ++ (id ∷ order_blank rest i)

path_of_blank : (w : Walk) (f : Doc) → path_of w (blank_doc f) ≡ path_of w f
path_of_blank (Up g) f = λ i. cond (eqb g 0) (0 ∷ []) (path_blank g f i ++ 0 ∷ [])
path_of_blank All f = λ i. order_blank f i ++ 0 ∷ []

parent_of_blank : (q : ℕ) (f : Doc) → parent_of q (blank_doc f) ≡ parent_of q f
parent_of_blank q f = λ i. unwrap_or (parent_each (λ id layer. plain clear) q 0 f i) 0

-- the document that a change gives, without pixels
blank_result : Result Doc TreeFault → Result Doc TreeFault
blank_result (Ok f) = Ok (blank_doc f)
blank_result (Err fault) = Err fault

blank_contents : (g : ℕ → Layer) (r : Result Doc TreeFault) → blank_result (with_contents g r) ≡ blank_result r
unfolding blank_result
blank_contents g (Ok f) = ap Ok (blank_each (λ q x. g q) f)
blank_contents g (Err fault) = refl

blank_changed : (c : Change) (f : Doc) → blank_result (changed plain c (blank_doc f)) ≡ blank_result (changed plain c f)
blank_changed c f = ap blank_result (changed_each plain (λ q. plain clear) plain c f) ∙ blank_contents (after plain c (λ q. plain clear)) (changed plain c f)

no_ok : {A : Type 0} (f : Doc) (x : TreeFault) → blank_result (Ok f) ≡ blank_result (Err x) → A
unfolding blank_result
no_ok f x e = cc

ok_same : (f g : Doc) → blank_result (Ok f) ≡ blank_result (Ok g) → blank_doc f ≡ blank_doc g
unfolding blank_result
ok_same f g e = cc

-- slots

shot_twice : (shot : List (ℕ × List Child)) → map blank_group (map blank_group shot) ≡ map blank_group shot
shot_twice [] = refl
shot_twice (e ∷ shot) = ap (λ t. (e.0, []) ∷ t) (shot_twice shot)

groups_blank : (shot : List (ℕ × List Child)) → map (λ (e : ℕ × List Child). e.0) (map blank_group shot) ≡ map (λ (e : ℕ × List Child). e.0) shot
groups_blank [] = refl
groups_blank (e ∷ shot) = ap (λ t. e.0 ∷ t) (groups_blank shot)

walker_slot : (w : Walker) {a b : List (ℕ × List Child)} (published : List (ℕ × Key)) → a ≡ b
    → Walks (record { serial = 0; patch = w.patch; shot = a; published = published }) ≡ Walks (record { serial = 0; patch = w.patch; shot = b; published = published })
walker_slot w published e i = Walks (record { serial = 0; patch = w.patch; shot = e i; published = published })

slot_twice : (x : Slot) → blank_slot (blank_slot x) ≡ blank_slot x
slot_twice Free = refl
slot_twice (Paints w) = refl
slot_twice (Walks w) = walker_slot w w.published (shot_twice w.shot)

slots_twice : (slots : List Slot) → map blank_slot (map blank_slot slots) ≡ map blank_slot slots
slots_twice [] = refl
slots_twice (x ∷ slots) = λ i. slot_twice x i ∷ slots_twice slots i

set_blank : (slots : List Slot) (place : ℕ) (y z : Slot) → blank_slot y ≡ blank_slot z → map blank_slot (slice_set (map blank_slot slots) place y) ≡ map blank_slot (slice_set slots place z)
set_blank [] place y z e = refl
set_blank (x ∷ slots) zero y z e = λ i. e i ∷ slots_twice slots i
set_blank (x ∷ slots) (suc n) y z e = λ i. slot_twice x i ∷ set_blank slots n y z e i

any_blank : (test : Slot → Bool) → ((x : Slot) → test (blank_slot x) ≡ test x) → (slots : List Slot) → list_any test (map blank_slot slots) ≡ list_any test slots
any_blank test e [] = refl
any_blank test e (x ∷ slots) = λ i. e x i || any_blank test e slots i

all_blank : (test : Slot → Bool) → ((x : Slot) → test (blank_slot x) ≡ test x) → (slots : List Slot) → list_all test (map blank_slot slots) ≡ list_all test slots
all_blank test e [] = refl
all_blank test e (x ∷ slots) = λ i. e x i && all_blank test e slots i

painter_blank : (x : Slot) → is_painter (blank_slot x) ≡ is_painter x
painter_blank Free = refl
painter_blank (Paints w) = refl
painter_blank (Walks w) = refl

is_walker_blank : (x : Slot) → is_walker (blank_slot x) ≡ is_walker x
is_walker_blank Free = refl
is_walker_blank (Paints w) = refl
is_walker_blank (Walks w) = refl

free_blank : (x : Slot) → is_free (blank_slot x) ≡ is_free x
free_blank Free = refl
free_blank (Paints w) = refl
free_blank (Walks w) = refl

blocks_blank : (jobs : List (Kind × Job)) (kind : Kind) (x : Slot) → blocks jobs kind (blank_slot x) ≡ blocks jobs kind x
blocks_blank jobs kind Free = refl
blocks_blank jobs kind (Paints w) = refl
blocks_blank jobs kind (Walks w) = refl

meets_blank : (rect : Area) (x : Slot) → meets_walker rect (blank_slot x) ≡ meets_walker rect x
meets_blank rect Free = refl
meets_blank rect (Paints w) = refl
meets_blank rect (Walks w) = refl

-- the other parts of a state

entry_twice : (e : Doc × Reach) → blank_entry (blank_entry e) ≡ blank_entry e
entry_twice e = λ i. (blank_twice e.0 i, e.1)

entries_twice : (es : List (Doc × Reach)) → map blank_entry (map blank_entry es) ≡ map blank_entry es
entries_twice [] = refl
entries_twice (e ∷ es) = λ i. entry_twice e i ∷ entries_twice es i

entries_taken : (n : ℕ) (es : List (Doc × Reach)) → map blank_entry (take n (map blank_entry es)) ≡ map blank_entry (take n es)
entries_taken zero es = refl
entries_taken (suc n) [] = refl
entries_taken (suc n) (e ∷ es) = λ i. entry_twice e i ∷ entries_taken n es i

outcomes_twice : (os : List Outcome) → map (λ o. Done) (map (λ o. Done) os) ≡ map (λ o. Done) os
outcomes_twice [] = refl
outcomes_twice (o ∷ os) = ap (λ t. Done ∷ t) (outcomes_twice os)

outcomes_more : (os : List Outcome) (o p : Outcome) → map (λ o. Done) (map (λ o. Done) os ++ o ∷ []) ≡ map (λ o. Done) (os ++ p ∷ [])
outcomes_more [] o p = refl
outcomes_more (x ∷ os) o p = ap (λ t. Done ∷ t) (outcomes_more os o p)

once : (s : State) → blank (blank s) ≡ blank s
once s i = record {
  canvas = s.canvas;
  fed = s.fed;
  outcomes = outcomes_twice s.outcomes i;
  frames = [];
  past = entries_twice s.past i;
  future = entries_twice s.future i;
  base = blank_twice s.base i;
  present = blank_twice s.present i;
  way = s.way;
  caches = map.empty;
  updates = s.updates;
  slots = slots_twice s.slots i;
  next = 0;
}

waiting_blank : (s : State) → waiting (blank s) ≡ waiting s
waiting_blank s = ap (λ n. drop n (entries s.fed)) (length_map (λ o. Done) s.outcomes)

head_blank : (s : State) → head (blank s) ≡ head s
head_blank s = ap first (waiting_blank s)

head_stroke_blank : (s : State) → head_stroke (blank s) ≡ head_stroke s
head_stroke_blank s = ap stroke_of (head_blank s)

no_painter_blank : (s : State) → no_painter (blank s) ≡ no_painter s
no_painter_blank s = ap not (any_blank is_painter painter_blank s.slots)

no_walker_blank : (s : State) → no_walker (blank s) ≡ no_walker s
no_walker_blank s = ap not (any_blank is_walker is_walker_blank s.slots)

when_same : (t u : Bool) (x y : State) → t ≡ u → blank x ≡ blank y → option_map blank (when t x) ≡ option_map blank (when u y)
when_same t u x y e f = ap (λ b. option_map blank (when b x)) e ∙ go u
  where
    go : (b : Bool) → option_map blank (when b x) ≡ option_map blank (when b y)
    go true = ap Some f
    go false = refl

-- the first events
module _ (s : State) where
  feed_forgets : (c : Command) → option_map blank (next (blank s) (Feed c)) ≡ option_map blank (next s (Feed c))
  feed_forgets c = when_same (may_follow (entries s.fed) c) (may_follow (entries s.fed) c) (record (blank s) { fed = s.fed ++ c ∷ [] }) (record s { fed = s.fed ++ c ∷ [] }) refl ((λ i. record (once s i) { fed = s.fed ++ c ∷ [] }))

  init_forgets : option_map blank (next (blank s) Init) ≡ option_map blank (next s Init)
  init_forgets = ap (λ o. option_map blank (begun (blank s) o s.way)) (head_stroke_blank s) ∙ go (head_stroke s) s.way
    where
      go : (o : Option Stroke) (w : Option ℕ) → option_map blank (begun (blank s) o w) ≡ option_map blank (begun s o w)
      go None w = refl
      go (Some stroke) (Some n) = refl
      go (Some stroke) None = when_same (may_begin (blank s) stroke) (may_begin s stroke) (record (blank s) { way = Some 0 }) (record s { way = Some 0 }) (λ i. is_alive stroke && (is_paint_blank stroke.layer s.base i && (not stroke.exclusive || no_walker_blank s i))) ((λ i. record (once s i) { way = Some 0 }))

  start_forgets : (place : ℕ) → option_map blank (next (blank s) (Start place)) ≡ option_map blank (next s (Start place))
  start_forgets place = (λ i. option_map blank (started (blank s) place (head_stroke_blank s i) s.way (slice_get-map blank_slot s.slots place i))) ∙ go (head_stroke s) s.way (slice_get s.slots place)
    where
      starts : (stroke : Stroke) (n : ℕ) (o : Option (Kind × Job)) → option_map blank (job_started (blank s) place stroke n o) ≡ option_map blank (job_started s place stroke n o)
      starts stroke n None = refl
      starts stroke n (Some job) = when_same (may_start (blank s) stroke job) (may_start s stroke job) (with_painter (blank s) place stroke n job.1) (with_painter s place stroke n job.1)
          (λ i. is_alive stroke && (not (any_blank (blocks (kept_jobs stroke) job.0) (blocks_blank (kept_jobs stroke) job.0) s.slots i) && (not (is_bar job.0) || (stroke.exclusive || (no_walker_blank s i && is_clear s.updates)))))
          ((λ i. record (once s i) { way = Some (suc n); slots = set_blank s.slots place (new_painter (blank s) stroke n job.1) (new_painter s stroke n job.1) refl i }))

      go : (o : Option Stroke) (w : Option ℕ) (slot : Option Slot) → option_map blank (started (blank s) place o w (option_map blank_slot slot)) ≡ option_map blank (started s place o w slot)
      go None w slot = refl
      go (Some stroke) None slot = refl
      go (Some stroke) (Some n) None = refl
      go (Some stroke) (Some n) (Some (Paints w)) = refl
      go (Some stroke) (Some n) (Some (Walks w)) = refl
      go (Some stroke) (Some n) (Some Free) = starts stroke n (slice_get (kept_jobs stroke) n)

  publish_forgets : (place : ℕ) (key : Key) → option_map blank (next (blank s) (Publish place key)) ≡ option_map blank (next s (Publish place key))
  publish_forgets place key = (λ i. option_map blank (tile_published (blank s) place key (head_stroke_blank s i) (slice_get-map blank_slot s.slots place i))) ∙ go (head_stroke s) (slice_get s.slots place)
    where
      go : (o : Option Stroke) (slot : Option Slot) → option_map blank (tile_published (blank s) place key o (option_map blank_slot slot)) ≡ option_map blank (tile_published s place key o slot)
      go None slot = refl
      go (Some stroke) None = refl
      go (Some stroke) (Some Free) = refl
      go (Some stroke) (Some (Walks w)) = refl
      go (Some stroke) (Some (Paints w)) = when_same (may_publish w key) (may_publish w key) (with_tile (blank s) place key stroke (record w { serial = 0; shot = plain clear })) (with_tile s place key stroke w) refl (λ i. record (once s i) {
        present = (blank_adjusted stroke.layer (published w.job (plain clear) key) (blank_doc s.present) ∙ blank_twice s.present ∙ sym (blank_adjusted stroke.layer (published w.job w.shot key) s.present)) i;
        slots = set_blank s.slots place (Paints (record w { serial = 0; shot = plain clear; published = key ∷ w.published })) (Paints (record w { published = key ∷ w.published })) refl i;
      })

  end_forgets : (place : ℕ) → option_map blank (next (blank s) (End place)) ≡ option_map blank (next s (End place))
  end_forgets place = (λ i. option_map blank (ended (blank s) place (head_stroke_blank s i) (slice_get-map blank_slot s.slots place i))) ∙ go (head_stroke s) (slice_get s.slots place)
    where
      go : (o : Option Stroke) (slot : Option Slot) → option_map blank (ended (blank s) place o (option_map blank_slot slot)) ≡ option_map blank (ended s place o slot)
      go None slot = refl
      go (Some stroke) None = refl
      go (Some stroke) (Some Free) = refl
      go (Some stroke) (Some (Walks w)) = refl
      go (Some stroke) (Some (Paints w)) = when_same (is_painted w) (is_painted w) (without_painter (blank s) place stroke (record w { serial = 0; shot = plain clear })) (without_painter s place stroke w) refl (λ i. record (once s i) {
        slots = set_blank s.slots place Free Free refl i;
        updates = updates_with_all (canvas_area s.canvas) (parent_of_blank stroke.layer s.present i) (writes w.job) s.updates;
      })

  finish_forgets : option_map blank (next (blank s) Finish) ≡ option_map blank (next s Finish)
  finish_forgets = ap (λ o. option_map blank (finished (blank s) o)) (head_stroke_blank s) ∙ go (head_stroke s)
    where
      makes : (stroke : Stroke) (b : Bool) → blank (after_finish (blank s) stroke b) ≡ blank (after_finish s stroke b)
      makes stroke false = λ i. record (once s i) { outcomes = outcomes_more s.outcomes (no_paint_outcome stroke.layer (blank_doc s.base)) (no_paint_outcome stroke.layer s.base) i }
      makes stroke true = λ i. record (once s i) {
        past = (blank_twice s.base i, reach_of stroke) ∷ entries_twice s.past i;
        future = [];
        base = blank_twice s.present i;
        outcomes = outcomes_more s.outcomes Done Done i;
        way = None;
      }

      go : (o : Option Stroke) → option_map blank (finished (blank s) o) ≡ option_map blank (finished s o)
      go None = refl
      go (Some stroke) = when_same (may_finish (blank s) stroke) (may_finish s stroke) (after_finish (blank s) stroke (is_paint stroke.layer (blank_doc s.base))) (after_finish s stroke (is_paint stroke.layer s.base))
          (λ i. is_ended stroke && (not (overlaps stroke) && (not (is_paint_blank stroke.layer s.base i) || (is_number (length stroke.jobs) s.way && no_painter_blank s i))))
          (ap (λ b. blank (after_finish (blank s) stroke b)) (is_paint_blank stroke.layer s.base) ∙ makes stroke (is_paint stroke.layer s.base))

  started_blank : (stroke : Stroke) → started_jobs (blank s) stroke ≡ started_jobs s stroke
  started_blank stroke = go s.way
    where
      go : (w : Option ℕ) → started_jobs (record (blank s) { way = w }) stroke ≡ started_jobs (record s { way = w }) stroke
      go None = refl
      go (Some n) = refl

  with_blank : (g : ℕ) (o : Option Area) → updates_with (blank s) g o ≡ updates_with s g o
  with_blank g None = refl
  with_blank g (Some rect) = refl

  cancel_forgets : option_map blank (next (blank s) Cancel) ≡ option_map blank (next s Cancel)
  cancel_forgets = ap (λ o. option_map blank (cancelled (blank s) o)) (head_stroke_blank s) ∙ go (head_stroke s)
    where
      updates_cancelled : (stroke : Stroke) → (after_cancel (blank s) stroke).updates ≡ (after_cancel s stroke).updates
      updates_cancelled stroke = (λ i. updates_with (blank s) (parent_of_blank stroke.layer s.present i) (bound_of (set.items (key_set (writes_of (started_blank stroke i)))))) ∙ with_blank (parent_of stroke.layer s.present) (bound_of (set.items (key_set (writes_of (started_jobs s stroke)))))

      go : (o : Option Stroke) → option_map blank (cancelled (blank s) o) ≡ option_map blank (cancelled s o)
      go None = refl
      go (Some stroke) = when_same (may_cancel (blank s) stroke) (may_cancel s stroke) (after_cancel (blank s) stroke) (after_cancel s stroke)
          (λ i. is_closed stroke && ((is_cancelled stroke || overlaps stroke) && no_painter_blank s i))
          (λ i. record (once s i) {
            present = blank_twice s.base i;
            outcomes = outcomes_more s.outcomes (cancel_outcome (conflict stroke.jobs)) (cancel_outcome (conflict stroke.jobs)) i;
            way = None;
            updates = updates_cancelled stroke i;
          })

  act_forgets : option_map blank (next (blank s) Act) ≡ option_map blank (next s Act)
  act_forgets = (λ i. option_map blank (acted (blank s) (head_stroke_blank s i) (head_blank s i))) ∙ go (head_stroke s) (head s)
    where
      outcome_same : (o p : Outcome) → blank (with_outcome (blank s) o) ≡ blank (with_outcome s p)
      outcome_same o p = (λ i. record (once s i) { present = (blank_twice s.base) i; outcomes = (outcomes_more s.outcomes o p) i })

      changes : (r q : Result Doc TreeFault) → blank_result r ≡ blank_result q → blank (after_change (blank s) r) ≡ blank (after_change s q)
      changes (Ok f) (Ok g) e = (λ i. record (once s i) { past = (blank_twice s.base i, Whole) ∷ entries_twice s.past i; future = []; base = (ok_same f g e) i; present = (ok_same f g e) i; outcomes = (outcomes_more s.outcomes Done Done) i; updates = refreshed (canvas_area s.canvas) s.updates (canvas_area s.canvas) })
      changes (Ok f) (Err y) e = no_ok f y e
      changes (Err x) (Ok g) e = no_ok g x (sym e)
      changes (Err x) (Err y) e = outcome_same _ _

      undoes : (past : List (Doc × Reach)) → blank (after_undo (blank s) (map blank_entry past)) ≡ blank (after_undo s past)
      undoes [] = outcome_same _ _
      undoes ((doc, Whole) ∷ past) = (λ i. record (once s i) { past = (entries_twice past) i; future = (blank_twice s.base i, Whole) ∷ entries_twice s.future i; base = (blank_twice doc) i; present = (blank_twice doc) i; outcomes = (outcomes_more s.outcomes Done Done) i; updates = refreshed (canvas_area s.canvas) s.updates (canvas_area s.canvas) })
      undoes ((doc, Part layer keys) ∷ past) = (λ i. record (once s i) { past = (entries_twice past) i; future = (blank_twice s.base i, Part layer keys) ∷ entries_twice s.future i; base = (blank_twice doc) i; present = (blank_twice doc) i; outcomes = (outcomes_more s.outcomes Done Done) i; updates = updates_with s (parent_of_blank layer doc i) (bound_of (set.items keys)) })

      redoes : (future : List (Doc × Reach)) → blank (after_redo (blank s) (map blank_entry future)) ≡ blank (after_redo s future)
      redoes [] = outcome_same _ _
      redoes ((doc, Whole) ∷ future) = (λ i. record (once s i) { past = (blank_twice s.base i, Whole) ∷ entries_twice s.past i; future = (entries_twice future) i; base = (blank_twice doc) i; present = (blank_twice doc) i; outcomes = (outcomes_more s.outcomes Done Done) i; updates = refreshed (canvas_area s.canvas) s.updates (canvas_area s.canvas) })
      redoes ((doc, Part layer keys) ∷ future) = (λ i. record (once s i) { past = (blank_twice s.base i, Part layer keys) ∷ entries_twice s.past i; future = (entries_twice future) i; base = (blank_twice doc) i; present = (blank_twice doc) i; outcomes = (outcomes_more s.outcomes Done Done) i; updates = updates_with s (parent_of_blank layer doc i) (bound_of (set.items keys)) })

      makes : (entry : Entry) → blank (after_entry (blank s) entry) ≡ blank (after_entry s entry)
      makes (Strokes stroke) = once s
      makes (Changes c) = changes _ _ (blank_changed c s.base)
      makes Undoes = undoes s.past
      makes Redoes = redoes s.future
      makes (Purges n) = (λ i. record (once s i) { present = (blank_twice s.base) i; outcomes = (outcomes_more s.outcomes Done Done) i; past = (entries_taken n s.past) i })
      makes Exports = (λ i. record (once s i) { present = (blank_twice s.base) i; outcomes = (outcomes_more s.outcomes Done Done) i })

      go : (o : Option Stroke) (e : Option Entry) → option_map blank (acted (blank s) o e) ≡ option_map blank (acted s o e)
      go None None = refl
      go (Some stroke) e = refl
      go None (Some entry) = when_same (may_act (blank s) entry) (may_act s entry) (after_entry (blank s) entry) (after_entry s entry) (λ i. no_walker_blank s i && (not (is_export entry) || is_clear s.updates)) (makes entry)

  groups_same : (t : State) (rect : Area) (gs : List ℕ) → map blank_group (shots_of s rect gs) ≡ map blank_group (shots_of t rect gs)
  groups_same t rect [] = refl
  groups_same t rect (g ∷ gs) = ap (λ x. (g, []) ∷ x) (groups_same t rect gs)

  walk_start_forgets : (place : ℕ) (patch : Patch) → option_map blank (next (blank s) (WalkStart place patch)) ≡ option_map blank (next s (WalkStart place patch))
  walk_start_forgets place patch = ap (λ x. option_map blank (walk_started (blank s) place at (slice_get s.updates at) x)) (slice_get-map blank_slot s.slots place) ∙ go (slice_get s.updates at) (slice_get s.slots place)
    where
      at : ℕ
      at = place_of patch s.updates

      groups : (p : Patch) → map blank_group (walk_shot (blank s) p) ≡ map blank_group (walk_shot s p)
      groups p = ap (λ gs. map blank_group (shots_of (blank s) p.rect gs)) (path_of_blank p.walk s.present) ∙ sym (groups_same (blank s) p.rect (path_of p.walk s.present))

      go : (p : Option Patch) (slot : Option Slot) → option_map blank (walk_started (blank s) place at p (option_map blank_slot slot)) ≡ option_map blank (walk_started s place at p slot)
      go None slot = refl
      go (Some p) None = refl
      go (Some p) (Some (Paints w)) = refl
      go (Some p) (Some (Walks w)) = refl
      go (Some p) (Some Free) = when_same (may_walk (blank s) p.rect) (may_walk s p.rect) (with_walker (blank s) place at p) (with_walker s place at p)
          (λ i. not (is_exclusive (head_stroke_blank s i) s.way) && not (any_blank (meets_walker p.rect) (meets_blank p.rect) s.slots i))
          ((λ i. record (once s i) { updates = without_nth s.updates at; slots = (set_blank s.slots place (new_walker (blank s) p) (new_walker s p) (ap (λ t. Walks (record { serial = 0; patch = p; shot = t; published = [] })) (groups p))) i }))

  walk_publish_forgets : (place g : ℕ) (key : Key) → option_map blank (next (blank s) (WalkPublish place g key)) ≡ option_map blank (next s (WalkPublish place g key))
  walk_publish_forgets place g key = ap (λ x. option_map blank (tile_composed (blank s) place g key x)) (slice_get-map blank_slot s.slots place) ∙ go (slice_get s.slots place)
    where
      go : (slot : Option Slot) → option_map blank (tile_composed (blank s) place g key (option_map blank_slot slot)) ≡ option_map blank (tile_composed s place g key slot)
      go None = refl
      go (Some Free) = refl
      go (Some (Paints w)) = refl
      go (Some (Walks w)) = when_same (may_compose (record w { serial = 0; shot = map blank_group w.shot }) g key) (may_compose w g key) (with_composed (blank s) place g key (record w { serial = 0; shot = map blank_group w.shot })) (with_composed s place g key w)
          (λ i. on g (groups_blank w.shot i) && (list_any (same_key key) (keys_of w.patch.rect) && not (list_any (same_pair g key) w.published)))
          (λ i. record (once s i) {
            slots = set_blank s.slots place (Walks (record w { serial = 0; shot = map blank_group w.shot; published = (g, key) ∷ w.published })) (Walks (record w { published = (g, key) ∷ w.published })) (walker_slot w ((g, key) ∷ w.published) (shot_twice w.shot)) i;
          })

  walk_end_forgets : (place : ℕ) → option_map blank (next (blank s) (WalkEnd place)) ≡ option_map blank (next s (WalkEnd place))
  walk_end_forgets place = ap (λ x. option_map blank (walk_ended (blank s) place x)) (slice_get-map blank_slot s.slots place) ∙ go (slice_get s.slots place)
    where
      go : (slot : Option Slot) → option_map blank (walk_ended (blank s) place (option_map blank_slot slot)) ≡ option_map blank (walk_ended s place slot)
      go None = refl
      go (Some Free) = refl
      go (Some (Paints w)) = refl
      go (Some (Walks w)) = when_same (is_composed (record w { serial = 0; shot = map blank_group w.shot })) (is_composed w) (record (blank s) { slots = slice_set (map blank_slot s.slots) place Free }) (record s { slots = slice_set s.slots place Free })
          (λ i. list_all (λ g. list_all (λ key. list_any (same_pair g key) w.published) (keys_of w.patch.rect)) (groups_blank w.shot i))
          (λ i. record (once s i) { slots = set_blank s.slots place Free Free refl i })

  forgets : (e : Event) → option_map blank (next (blank s) e) ≡ option_map blank (next s e)
  forgets (Feed c) = feed_forgets c
  forgets Init = init_forgets
  forgets (Start place) = start_forgets place
  forgets (Publish place key) = publish_forgets place key
  forgets (End place) = end_forgets place
  forgets Finish = finish_forgets
  forgets Cancel = cancel_forgets
  forgets Act = act_forgets
  forgets (WalkStart place patch) = walk_start_forgets place patch
  forgets (WalkPublish place g key) = walk_publish_forgets place g key
  forgets (WalkEnd place) = walk_end_forgets place

same_for_alike : (a b : State) (e : Event) → blank a ≡ blank b → option_map blank (next a e) ≡ option_map blank (next b e)
same_for_alike a b e same = sym (forgets a e) ∙ ap (λ s. option_map blank (next s e)) same ∙ forgets b e

first_same : (o p q r : Option State) → option_map blank o ≡ option_map blank p → option_map blank q ≡ option_map blank r → option_map blank (first_of o q) ≡ option_map blank (first_of p r)
first_same None None q r e f = f
first_same None (Some b) q r e f = cc
first_same (Some a) None q r e f = cc
first_same (Some a) (Some b) q r e f = e

settled_blank : (s : State) → is_settled (blank s) ≡ is_settled s
settled_blank s = λ i. eqb (length_map (λ o. Done) s.outcomes i) (length (entries s.fed)) && (all_blank is_free free_blank s.slots i && is_clear s.updates)

pub pixels_dont_count : PixelsDontCount
pixels_dont_count = record {
  again = once;
  same_next = forgets;
  alike = same_for_alike;
  same_step = λ a b e. first_same _ _ _ _ (same_for_alike a b Init e) (first_same _ _ _ _ (same_for_alike a b Finish e) (first_same _ _ _ _ (same_for_alike a b Cancel e) (same_for_alike a b Act e)));
  same_end = λ a b place e. first_same _ _ _ _ (same_for_alike a b (End place) e) (same_for_alike a b (WalkEnd place) e);
  same_settled = λ a b e. sym (settled_blank a) ∙ ap is_settled e ∙ settled_blank b;
}
