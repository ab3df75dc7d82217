-- Jobs that write within one tile alone: what the desk does in one hold is the machine's events.
use borrow.Author.Differences.{ints}
use Rattle.std.proofs.Common.{◌≡◌, ◌↔◌, ℕ, suc, zero, ◌+◌, ◌*◌, ◌<◌, ◌≤◌, Bool, true, false, ◌&&◌, ◌||◌, cond, Option, Some, None, List, [], ◌∷◌, ◌++◌, append-nil, length, take, drop, refl, sym, ap, ◌∙◌, subst, arith, eqb}
use Rattle.std.specs.Prelude.{All, IfSome, ℤ, pos, ◌+ℤ◌, ◌*ℤ◌, int_le, int_lt, slice_get, slice_set, ◌^◌, ◌-◌}
use Rattle.std.proofs.lemmas.List.{length-take-le}
use Rattle.std.proofs.lemmas.List.Elements.{All-from_recursion, recursion_from_All}
use Rattle.std.specs.Option.{unwrap_or}
use Rattle.std.specs.List.{list_any, AllByRecursion}
use Rattle.std.specs.FinSet as set
use Rattle.std.specs.FinSet.{FinSet}
use Rattle.pixel_core.specs.Rgba.{clear}
use Rattle.geom_core.specs.Areas.{Area, lies_in}
use Rattle.geom_core.specs.Grid.{Key, key_cmp, same_key, tile, all_keys_of}
use Rattle.geom_core.specs.Keys.{key_cmp_total, key_cmp-IsAntisymmetric}
use Rattle.geom_core.proofs.Tests.{and_left, and_right, not_true, or_left}
use Rattle.geom_core.proofs.Tiles.{key_same, key_is}
use Rattle.doc_model.specs.declared.job.Job.{Job}
use Rattle.doc_model.specs.declared.job.Job.TheVariants.{Fill, Dab, Move, Blur, Track}
use Rattle.doc_model.specs.declared.job.Kind.{Kind}
use Rattle.doc_model.specs.Adjusting.{adjusted}
use Rattle.doc_model.specs.Each.{each}
use Rattle.doc_model.specs.Forest.{Forest, none, paint, group, content, with_content}
use Rattle.doc_model.specs.Jobs.{reads, writes, square}
use Rattle.doc_model.specs.Layers.{Layer, plain}
use Rattle.doc_model.specs.Lawful.{within_limits}
use Rattle.doc_model.specs.Picture.{Doc, canvas_area}
use Rattle.doc_model.specs.Readers.{parent}
use Rattle.doc_model.specs.Shots.{shot_of, published}
use Rattle.doc_model.specs.Strokes.{Jobs, Stroke}
use Rattle.doc_model.proofs.Contents.{adjusted-with_content, content-with_content}
use Rattle.doc_model.proofs.Shots.{shot_same}
use Rattle.job_core.specs.Points.{is_within, painted_in, all_painted_in, spot, IsPointJob}
use Rattle.job_core.proofs.Values.{HasPoints, one_met, some_of_limits}
use Rattle.job_core.proofs.Keys.{square_some}
use Rattle.update_queue.specs.Waiting.{Waiting, waiting}
use Rattle.entry_queue.specs.Heads.{jobs_in}
use Rattle.desk_steps.specs.Archives.{Archive, with_painted}
use Rattle.doc_model.proofs.Natural.{parent_each}
use Rattle.machine_model.specs.State.{State, Painter, Slot, Free, Paints, Walks, head_stroke}
use Rattle.machine_model.specs.Event.{Start, Publish, End}
use Rattle.machine_model.specs.Effects.{layer_in, updates_with_all, writes_of}
use Rattle.machine_model.specs.Groups.{parent_of}
use Rattle.machine_model.specs.Guards.{kept_jobs, is_cancelled, overlaps, is_bar, blocks}
use Rattle.machine_model.specs.Slots.{is_painter, no_painter, no_walker}
use Rattle.machine_model.specs.Painters.{painter_in, is_done, done}
use Rattle.machine_model.specs.Sound.{IsSound}
use Rattle.machine_model.specs.Step.{Step, StartStep, Run}
use Rattle.machine_model.specs.UnderWay.{UnderWay, IsOnWay}
use Rattle.machine_model.proofs.Lists.{get_set, length_above}
use Rattle.machine_model.proofs.RunsSound.{step_keeps_sound}
use Rattle.machine_model.proofs.Serials.{serials_are_few}
use Rattle.machine_model.proofs.StartWay.{not_started}
use Rattle.desk_state.specs.Noted.{writes_in, noted}
use Rattle.desk_state.specs.Parts.{Parts, state_of}
use Rattle.desk_state.specs.Tied.{IsDesk, IsWay, IsBegun}
use Rattle.desk_state.proofs.Enabling.{job_fits}
use Rattle.desk_state.proofs.Heads.{queued_jobs}
use Rattle.desk_state.proofs.Noting.{written_at}
use Rattle.desk_state.proofs.Places.{set_twice, set_same}
use Rattle.desk_state.proofs.Publishing.{published_same}
use Rattle.desk_events.specs.declared.small_jobs.Laid.{Laid}
use Rattle.desk_events.specs.SmallJobs.{small_events, WritesWithin, IsLeastRound, StartsWithin, PaintsSmall, NoBarBehind, IsAlone, LaysRun}
use Rattle.desk_events.proofs.Barriers.{updates_with_all-append, front_get}

-- ---- the tile of a job

in_one : (a k c : ℤ) (n : ℕ) → 1 ≤ n → (int_le (pos 64 *ℤ c) a && int_le (a +ℤ pos n) ((pos 64 *ℤ c) +ℤ pos 64)) ≡ true → (int_lt a ((pos 64 *ℤ k) +ℤ pos 64) && int_lt (pos 64 *ℤ k) (a +ℤ pos n)) ≡ true → k ≡ c
in_one a k c n some h m = grind (arith, ints)

-- a rectangle that lies in a tile meets no other
one_tile : (rect : Area) (key k : Key) → HasPoints rect → (lies_in rect (tile key) && true) ≡ true → list_any (same_key k) (all_keys_of (rect ∷ [])) ≡ true → k ≡ key
one_tile rect key k some h m =
    let met = one_met rect k some m in
    let lies : lies_in rect (tile key) ≡ true = and_left _ _ h in
    λ i. record { col = in_one rect.x k.col key.col rect.w some.0 (and_left _ _ lies) (and_left _ _ met) i; row = in_one rect.y k.row key.row rect.h some.1 (and_right _ _ lies) (and_right _ _ met) i }

job_tile : (key k : Key) (job : Job) → within_limits job ≡ true → is_within (tile key) job ≡ true → list_any (same_key k) (all_keys_of (writes job)) ≡ true → k ≡ key
job_tile key k (Fill rect colour op strength) l h m = one_tile rect key k (some_of_limits rect l) h m
job_tile key k (Dab x y r soft colour op strength) l h m = one_tile (square x y r) key k (square_some x y r) h m
job_tile key k (Move rect dx dy) l h m = cc
job_tile key k (Blur rect r) l h m = cc
job_tile key k (Track t cell) l h m = one_tile (tile cell) key k (omega arith, omega arith) h m

-- a job that writes within a tile alone writes in no other
pub tile_alone : (key k : Key) (job : Job) → IsPointJob key job → is_within (tile key) job ≡ true → list_any (same_key k) (all_keys_of (writes job)) ≡ same_key k key
tile_alone key k job is h = go (list_any (same_key k) (all_keys_of (writes job))) refl (same_key k key) refl
  where
    go : (a : Bool) → list_any (same_key k) (all_keys_of (writes job)) ≡ a → (b : Bool) → same_key k key ≡ b → a ≡ b
    go true e b f = sym (key_is k key (job_tile key k job is.limits h e)) ∙ f
    go false e true f = sym e ∙ ap (λ q. list_any (same_key q) (all_keys_of (writes job))) (key_same k key f) ∙ is.met
    go false e false f = refl

-- ---- documents

module _ {A : Type 0} where
  -- one change of a content after another
  pub adjusted-adjusted : (q : ℕ) (f g : A → A) (doc : Forest A) → adjusted q f (adjusted q g doc) ≡ adjusted q (λ x. f (g x)) doc
  adjusted-adjusted q f g none = refl
  adjusted-adjusted q f g (paint id look x rest) = λ i. paint id look (go (eqb q id) i) (adjusted-adjusted q f g rest i)
    where
      go : (b : Bool) → cond b (f (cond b (g x) x)) (cond b (g x) x) ≡ cond b (f (g x)) x
      go true = refl
      go false = refl
  adjusted-adjusted q f g (group id look nodes rest) = λ i. group id look (adjusted-adjusted q f g nodes i) (adjusted-adjusted q f g rest i)

  -- no content
  abbrev blank : ℕ → A → Unit {0}
  blank id x = tt

  each-adjusted : (q : ℕ) (f : A → A) (doc : Forest A) → each blank (adjusted q f doc) ≡ each blank doc
  each-adjusted q f none = refl
  each-adjusted q f (paint id look x rest) = ap (paint id look tt) (each-adjusted q f rest)
  each-adjusted q f (group id look nodes rest) = λ i. group id look (each-adjusted q f nodes i) (each-adjusted q f rest i)

  -- the groups stay
  parent-adjusted : (p q : ℕ) (f : A → A) (doc : Forest A) → parent p 0 (adjusted q f doc) ≡ parent p 0 doc
  parent-adjusted p q f doc = sym (parent_each blank p 0 (adjusted q f doc)) ∙ ap (parent p 0) (each-adjusted q f doc) ∙ parent_each blank p 0 doc

pub group-adjusted : (p q : ℕ) (f : Layer → Layer) (doc : Doc) → parent_of p (adjusted q f doc) ≡ parent_of p doc
group-adjusted p q f doc = ap (λ o. unwrap_or o 0) (parent-adjusted p q f doc)

-- what is published from a shot of the layer is painted from the layer
published_on : (q : ℕ) (layer old : Layer) (base doc : Doc) (job : Job) (key : Key) → content q base ≡ Some old → doc ≡ with_content q layer base → adjusted q (published job (shot_of (reads job) (layer_in q doc)) key) doc ≡ adjusted q (painted_in job key) doc
published_on q layer old base doc job key was is = subst (λ d. adjusted q (published job (shot_of (reads job) (layer_in q d)) key) d ≡ adjusted q (painted_in job key) d) (sym is)
    (adjusted-with_content q (published job (shot_of (reads job) (layer_in q (with_content q layer base))) key) layer base
    ∙ ap (λ l. with_content q l base) (ap (λ x. published job (shot_of (reads job) x) key layer) seen ∙ published_same job (shot_of (reads job) layer) layer key layer (shot_same (reads job) layer))
    ∙ sym (adjusted-with_content q (painted_in job key) layer base))
  where
    seen : layer_in q (with_content q layer base) ≡ layer
    seen = ap (λ o. unwrap_or o (plain clear)) (content-with_content q layer old base was)

-- ---- the slots

unblocked_alone : (jobs : Jobs) (kind : Kind) (slots : List Slot) → list_any is_painter slots ≡ false → list_any (blocks jobs kind) slots ≡ false
unblocked_alone jobs kind [] h = refl
unblocked_alone jobs kind (Free ∷ slots) h = unblocked_alone jobs kind slots h
unblocked_alone jobs kind (Walks w ∷ slots) h = unblocked_alone jobs kind slots h
unblocked_alone jobs kind (Paints w ∷ slots) h = cc

-- ---- the stroke under way

stroke_same : (a b : Stroke) → Some a ≡ Some b → a ≡ b
stroke_same a b e = cc

-- its layer, and what the store has noted of it
record IsGone (d : Parts) (t : Stroke) (n : ℕ) : Type 0 where
  pub base_layer : Layer
  pub was : content t.layer d.store.base ≡ Some base_layer
  pub layer : Layer
  pub is : d.store.present ≡ with_content t.layer layer d.store.base
  pub keys : FinSet key_cmp
  pub way : d.store.way ≡ Some (t.layer, keys)
  pub notes : (k : Key) → set.contains keys k ≡ noted (kept_jobs t) (state_of d).slots n k
  pub room : d.store.room ≡ true
  pub unstarted : painter_in n (state_of d).slots ≡ None

gone : (d : Parts) (t : Stroke) (n : ℕ) → IsDesk d → d.way ≡ Some n → head_stroke (state_of d) ≡ Some t → IsGone d t n
gone d t n desk begun head = record {
  base_layer = u.base_layer;
  was = ap (λ (s : Stroke). content s.layer d.store.base) (sym of_u) ∙ u.was;
  layer = u.layer;
  is = u.is ∙ ap (λ (s : Stroke). with_content s.layer u.layer d.store.base) of_u;
  keys = b.keys;
  way = b.way ∙ ap (λ (s : Stroke). Some (s.layer, b.keys)) of_b;
  notes = λ k. b.notes k ∙ ap (λ (s : Stroke). noted (kept_jobs s) (state_of d).slots n k) of_b;
  room = b.room;
  unstarted = not_started (kept_jobs u.stroke) n (state_of d).slots u.started;
}
  where
    u : UnderWay (state_of d) n
    u = subst (IsOnWay (state_of d)) begun desk.sound.orderly.on_way

    b : IsBegun (state_of d) d.store n
    b = subst (IsWay (state_of d) d.store) begun desk.way

    of_u : u.stroke ≡ t
    of_u = stroke_same _ _ (sym u.at_head ∙ head)

    of_b : b.stroke ≡ t
    of_b = stroke_same _ _ (sym b.at_head ∙ head)

-- ---- one job

-- the next job of the stroke may start, no job is at work, and it writes within the tile alone
record MayPaint (d : Parts) (place : ℕ) (key : Key) (t : Stroke) (n g : ℕ) (j : Kind × Job) : Type 0 where
  pub at_head : head_stroke (state_of d) ≡ Some t
  pub begun : d.way ≡ Some n
  pub not_cancelled : is_cancelled t ≡ false
  pub no_overlap : overlaps t ≡ false
  pub free : slice_get (state_of d).slots place ≡ Some Free
  pub idle : no_painter (state_of d) ≡ true
  pub above : g ≡ parent_of t.layer d.store.present
  pub is_next : slice_get (kept_jobs t) n ≡ Some j
  pub barrier : is_bar j.0 ≡ true → t.exclusive ≡ false → (no_walker (state_of d) ≡ true) × (d.updates.patches ≡ [])
  pub point_job : IsPointJob key j.1
  pub within : is_within (tile key) j.1 ≡ true

-- the desk after it
abbrev after_job : Parts → Key → ℕ → ℕ → Kind × Job → Parts
after_job d key n g j = record d {
  store = with_painted d.store.way (spot (j ∷ []) key) d.store;
  updates = waiting d.updates.canvas (updates_with_all d.updates.canvas g (writes j.1) d.updates.patches);
  way = Some (suc n);
  next = suc d.next;
}

-- the job at work
abbrev painter_now : Parts → Stroke → ℕ → Kind × Job → List Key → Painter
painter_now d t n j published = record { serial = d.next; index = n; job = j.1; shot = shot_of (reads j.1) (layer_in t.layer d.store.present); published = published }

-- once it has started
abbrev started : Parts → Stroke → ℕ → ℕ → Kind × Job → State
started d t place n j = record (state_of d) { way = Some (suc n); next = suc d.next; slots = slice_set (state_of d).slots place (Paints (painter_now d t n j [])) }

-- once its tile is published
abbrev laid : Parts → Stroke → ℕ → Key → ℕ → Kind × Job → State
laid d t place key n j = record (started d t place n j) {
  present = adjusted t.layer (published j.1 (shot_of (reads j.1) (layer_in t.layer d.store.present)) key) d.store.present;
  slots = slice_set (started d t place n j).slots place (Paints (painter_now d t n j (key ∷ [])));
}

-- once it has ended
abbrev ended : Parts → Stroke → ℕ → Key → ℕ → Kind × Job → State
ended d t place key n j = record (laid d t place key n j) {
  slots = slice_set (laid d t place key n j).slots place Free;
  updates = updates_with_all (canvas_area d.canvas) (parent_of t.layer (laid d t place key n j).present) (writes j.1) d.updates.patches;
}

abbrev start_one : (d : Parts) (place : ℕ) (key : Key) (t : Stroke) (n g : ℕ) (j : Kind × Job) → MayPaint d place key t n g j → Step (state_of d) (Start place) (started d t place n j)
start_one d place key t n g j may = record {
  stroke = t;
  at_head = may.at_head;
  next = n;
  begun = may.begun;
  not_cancelled = may.not_cancelled;
  no_overlap = may.no_overlap;
  free = may.free;
  job = j;
  is_next = may.is_next;
  unblocked = unblocked_alone (kept_jobs t) j.0 (state_of d).slots (not_true _ may.idle);
  barrier = may.barrier;
  new_is = refl;
}

publish_one : (d : Parts) (place : ℕ) (key : Key) (t : Stroke) (n g : ℕ) (j : Kind × Job) → MayPaint d place key t n g j → Step (started d t place n j) (Publish place key) (laid d t place key n j)
publish_one d place key t n g j may = record {
  painter = painter_now d t n j [];
  runs = get_set (state_of d).slots place Free (Paints (painter_now d t n j [])) may.free;
  in_job = may.point_job.met;
  fresh = refl;
  stroke = t;
  at_head = may.at_head;
  new_is = refl;
}

end_one : (d : Parts) (place : ℕ) (key : Key) (t : Stroke) (n g : ℕ) (j : Kind × Job) → MayPaint d place key t n g j → Step (laid d t place key n j) (End place) (ended d t place key n j)
end_one d place key t n g j may = record {
  painter = painter_now d t n j (key ∷ []);
  runs = get_set (started d t place n j).slots place (Paints (painter_now d t n j [])) (Paints (painter_now d t n j (key ∷ []))) (get_set (state_of d).slots place Free (Paints (painter_now d t n j [])) may.free);
  all = λ k w. or_left (same_key k key) false (sym (tile_alone key k j.1 may.point_job may.within) ∙ w);
  stroke = t;
  at_head = may.at_head;
  new_is = refl;
}

-- the store with the tile
store_one : (d : Parts) (t : Stroke) (n : ℕ) (key : Key) (j : Kind × Job) (w : IsGone d t n)
    → with_painted d.store.way (spot (j ∷ []) key) d.store ≡ record d.store { present = adjusted t.layer (painted_in j.1 key) d.store.present; way = Some (t.layer, set.insert w.keys key) }
store_one d t n key j w = ap (λ o. with_painted o (spot (j ∷ []) key) d.store) w.way

-- the machine's state and the desk's
ended_is : (d : Parts) (place : ℕ) (key : Key) (t : Stroke) (n g : ℕ) (j : Kind × Job) → IsDesk d → MayPaint d place key t n g j → ended d t place key n j ≡ state_of (after_job d key n g j)
ended_is d place key t n g j desk may = λ i. record (state_of d) {
  way = Some (suc n);
  next = suc d.next;
  past = (store i).past;
  future = (store i).future;
  base = (store i).base;
  present = (store i).present;
  slots = slots i;
  updates = updates_with_all (area i) (groups i) (writes j.1) d.updates.patches;
}
  where
    w : IsGone d t n
    w = gone d t n desk may.begun may.at_head

    store : record d.store { present = adjusted t.layer (published j.1 (shot_of (reads j.1) (layer_in t.layer d.store.present)) key) d.store.present; way = Some (t.layer, set.insert w.keys key) } ≡ with_painted d.store.way (spot (j ∷ []) key) d.store
    store = ap (λ p. record d.store { present = p; way = Some (t.layer, set.insert w.keys key) }) (published_on t.layer w.layer w.base_layer d.store.base d.store.present j.1 key w.was w.is) ∙ sym (store_one d t n key j w)

    slots : slice_set (slice_set (slice_set (state_of d).slots place (Paints (painter_now d t n j []))) place (Paints (painter_now d t n j (key ∷ [])))) place Free ≡ (state_of d).slots
    slots = set_twice (started d t place n j).slots place (Paints (painter_now d t n j (key ∷ []))) Free ∙ set_twice (state_of d).slots place (Paints (painter_now d t n j [])) Free ∙ set_same (state_of d).slots place Free may.free

    area : canvas_area d.canvas ≡ d.updates.canvas
    area = sym desk.area

    groups : parent_of t.layer (laid d t place key n j).present ≡ g
    groups = group-adjusted t.layer t.layer (published j.1 (shot_of (reads j.1) (layer_in t.layer d.store.present)) key) d.store.present ∙ sym may.above

or_of : (a b : Bool) → a ≡ true → (b && a) ≡ b
or_of a true e = e
or_of a false e = refl

-- the desk stays one
one_desk : (d : Parts) (place : ℕ) (key : Key) (t : Stroke) (n g : ℕ) (j : Kind × Job) → IsDesk d → MayPaint d place key t n g j → IsDesk (after_job d key n g j)
one_desk d place key t n g j desk may = record {
  sound = subst IsSound (ended_is d place key t n g j desk may)
      (step_keeps_sound (laid d t place key n j) (ended d t place key n j) (End place)
      (step_keeps_sound (started d t place n j) (laid d t place key n j) (Publish place key)
      (step_keeps_sound (state_of d) (started d t place n j) (Start place) desk.sound (start_one d place key t n g j may))
      (publish_one d place key t n g j may))
      (end_one d place key t n g j may));
  queue = desk.queue;
  way = record {
    stroke = t;
    at_head = may.at_head;
    keys = set.insert w.keys key;
    way = ap (λ (a : Archive). a.way) (store_one d t n key j w);
    notes = notes;
    room = ap (λ (a : Archive). a.room) (store_one d t n key j w) ∙ w.room;
  };
  slots = desk.slots;
  area = desk.area;
  few = desk.few;
  sides = desk.sides;
}
  where
    w : IsGone d t n
    w = gone d t n desk may.begun may.at_head

    own : (k : Key) → (writes_in (kept_jobs t) n k && done (state_of d).slots n k) ≡ same_key k key
    own k = or_of (done (state_of d).slots n k) (writes_in (kept_jobs t) n k) (ap (λ o. is_done o k) w.unstarted) ∙ written_at (kept_jobs t) n j.0 j.1 k may.is_next ∙ tile_alone key k j.1 may.point_job may.within

    notes : (k : Key) → set.contains (set.insert w.keys key) k ≡ noted (kept_jobs t) (state_of d).slots (suc n) k
    notes k = set.contains-insert key_cmp_total w.keys key k ∙ ap (λ b. same_key k key || b) (w.notes k) ∙ ap (λ b. b || noted (kept_jobs t) (state_of d).slots n k) (sym (own k))

-- so many jobs in a row, and each that starts writes what one of these writes
abbrev pub RunOf : Jobs → ℕ → Key → ℕ → State → State → Type 0
RunOf jobs place key m old new = (run : Run old (small_events place key m) new) × ((a : Area) → StartsWithin a place key m old new run ↔ AllByRecursion (λ (j : Kind × Job). WritesWithin a j.1) jobs)

more_run : (d : Parts) (place : ℕ) (key : Key) (t : Stroke) (n g : ℕ) (j : Kind × Job) (jobs : Jobs) (m : ℕ) (new : State) → MayPaint d place key t n g j → RunOf jobs place key m (ended d t place key n j) new → RunOf (j ∷ jobs) place key (suc m) (state_of d) new
more_run d place key t n g j jobs m new may rest = (
  (started d t place n j, start_one d place key t n g j may, (laid d t place key n j, publish_one d place key t n g j may, (ended d t place key n j, end_one d place key t n g j may, rest.0))),
  (λ a. ((λ starts. (starts.0, (rest.1 a).0 starts.1)), (λ writes. (writes.0, (rest.1 a).1 writes.1)))),
)

-- its events, and then those of others
one_then : (d : Parts) (place : ℕ) (key : Key) (t : Stroke) (n g : ℕ) (j : Kind × Job) (jobs : Jobs) (m : ℕ) (new : State) → IsDesk d → MayPaint d place key t n g j → RunOf jobs place key m (state_of (after_job d key n g j)) new → RunOf (j ∷ jobs) place key (suc m) (state_of d) new
one_then d place key t n g j jobs m new desk may rest =
    more_run d place key t n g j jobs m new may (subst (λ s. RunOf jobs place key m s new) (sym (ended_is d place key t n g j desk may)) rest)

-- ---- jobs in a row

-- so are these jobs in turn, none but the first of which is a barrier
record MayPaintAll (d : Parts) (place : ℕ) (key : Key) (t : Stroke) (n g : ℕ) (jobs : Jobs) : Type 0 where
  pub at_head : head_stroke (state_of d) ≡ Some t
  pub begun : d.way ≡ Some n
  pub not_cancelled : is_cancelled t ≡ false
  pub no_overlap : overlaps t ≡ false
  pub free : slice_get (state_of d).slots place ≡ Some Free
  pub idle : no_painter (state_of d) ≡ true
  pub above : g ≡ parent_of t.layer d.store.present
  pub follow : (i : ℕ) (j : Kind × Job) → slice_get jobs i ≡ Some j → slice_get (kept_jobs t) (n + i) ≡ Some j
  pub barrier : (j : Kind × Job) → slice_get jobs 0 ≡ Some j → is_bar j.0 ≡ true → t.exclusive ≡ false → (no_walker (state_of d) ≡ true) × (d.updates.patches ≡ [])
  pub clear : NoBarBehind jobs
  pub each : AllByRecursion (λ (j : Kind × Job). IsPointJob key j.1) jobs
  pub within : AllByRecursion (λ (j : Kind × Job). is_within (tile key) j.1 ≡ true) jobs

-- the desk after them
abbrev pub after_jobs : Parts → Key → ℕ → ℕ → Jobs → Parts
after_jobs d key n g jobs = record d {
  store = with_painted d.store.way (spot jobs key) d.store;
  updates = waiting d.updates.canvas (updates_with_all d.updates.canvas g (writes_of jobs) d.updates.patches);
  way = Some (n + length jobs);
  next = d.next + length jobs;
}

first_of : (d : Parts) (place : ℕ) (key : Key) (t : Stroke) (n g : ℕ) (j : Kind × Job) (jobs : Jobs) → MayPaintAll d place key t n g (j ∷ jobs) → MayPaint d place key t n g j
first_of d place key t n g j jobs may = record {
  at_head = may.at_head;
  begun = may.begun;
  not_cancelled = may.not_cancelled;
  no_overlap = may.no_overlap;
  free = may.free;
  idle = may.idle;
  above = may.above;
  is_next = subst (λ m. slice_get (kept_jobs t) m ≡ Some j) flat (may.follow 0 j refl);
  barrier = may.barrier j refl;
  point_job = may.each.0;
  within = may.within.0;
}
  where
    flat : n + 0 ≡ n
    flat = omega arith

both : (b : Bool) → b ≡ true → b ≡ false → ⊥
both true e h = cc
both false e h = cc

rest_of : (d : Parts) (place : ℕ) (key : Key) (t : Stroke) (n g : ℕ) (j : Kind × Job) (jobs : Jobs) → IsDesk d → MayPaintAll d place key t n g (j ∷ jobs) → MayPaintAll (after_job d key n g j) place key t (suc n) g jobs
rest_of d place key t n g j jobs desk may = record {
  at_head = may.at_head;
  begun = refl;
  not_cancelled = may.not_cancelled;
  no_overlap = may.no_overlap;
  free = may.free;
  idle = may.idle;
  above = may.above ∙ sym (ap (λ (a : Archive). parent_of t.layer a.present) (store_one d t n key j (gone d t n desk may.begun may.at_head)) ∙ group-adjusted t.layer t.layer (painted_in j.1 key) d.store.present);
  follow = λ i k h. subst (λ m. slice_get (kept_jobs t) m ≡ Some k) (shift i) (may.follow (suc i) k h);
  barrier = λ k h bar. absurd (both (is_bar k.0) bar (may.clear 0 k h));
  clear = λ i k h. may.clear (suc i) k h;
  each = may.each.1;
  within = may.within.1;
}
  where
    shift : (i : ℕ) → n + suc i ≡ suc n + i
    shift i = omega arith

-- a key that is put twice
put_twice : (keys : FinSet key_cmp) (key : Key) → set.insert (set.insert keys key) key ≡ set.insert keys key
put_twice keys key = set.same_set key_cmp_total key_cmp-IsAntisymmetric _ _
    (λ k. set.contains-insert key_cmp_total (set.insert keys key) key k ∙ ap (λ b. same_key k key || b) (set.contains-insert key_cmp_total keys key k) ∙ again (same_key k key) (set.contains keys k) ∙ sym (set.contains-insert key_cmp_total keys key k))
  where
    again : (a b : Bool) → (a || (a || b)) ≡ (a || b)
    again true b = refl
    again false b = refl

store_more : (a : Archive) (layer : ℕ) (keys : FinSet key_cmp) (key : Key) (j : Kind × Job) (jobs : Jobs) → a.way ≡ Some (layer, keys)
    → with_painted (with_painted a.way (spot (j ∷ []) key) a).way (spot jobs key) (with_painted a.way (spot (j ∷ []) key) a) ≡ with_painted a.way (spot (j ∷ jobs) key) a
store_more a layer keys key j jobs e =
    ap (λ o. with_painted (with_painted o (spot (j ∷ []) key) a).way (spot jobs key) (with_painted o (spot (j ∷ []) key) a)) e
    ∙ (λ i. record a { present = adjusted-adjusted layer (all_painted_in jobs key) (painted_in j.1 key) a.present i; way = Some (layer, put_twice keys key i) })
    ∙ sym (ap (λ o. with_painted o (spot (j ∷ jobs) key) a) e)

last_is : (d : Parts) (key : Key) (n g : ℕ) (j : Kind × Job) → after_job d key n g j ≡ after_jobs d key n g (j ∷ [])
last_is d key n g j = λ i. record d {
  store = with_painted d.store.way (spot (j ∷ []) key) d.store;
  updates = waiting d.updates.canvas (updates_with_all d.updates.canvas g (all i) d.updates.patches);
  way = Some (one n i);
  next = one d.next i;
}
  where
    one : (m : ℕ) → suc m ≡ m + 1
    one m = omega arith

    all : writes j.1 ≡ writes j.1 ++ []
    all = sym (append-nil (writes j.1))

more_is : (d : Parts) (key : Key) (t : Stroke) (n g : ℕ) (j : Kind × Job) (jobs : Jobs) → IsGone d t n → after_jobs (after_job d key n g j) key (suc n) g jobs ≡ after_jobs d key n g (j ∷ jobs)
more_is d key t n g j jobs w = λ i. record d {
  store = store_more d.store t.layer w.keys key j jobs w.way i;
  updates = waiting d.updates.canvas (sym (updates_with_all-append d.updates.canvas g (writes j.1) (writes_of jobs) d.updates.patches) i);
  way = Some (more n (length jobs) i);
  next = more d.next (length jobs) i;
}
  where
    more : (m l : ℕ) → suc m + l ≡ m + suc l
    more m l = omega arith

-- the desk stays one by a run of such jobs
pub record IsSmallRun (d new : Parts) (jobs : Jobs) (place : ℕ) (key : Key) (m : ℕ) : Type 0 where
  pub desk : IsDesk new
  pub run : RunOf jobs place key m (state_of d) (state_of new)

-- one, and then the others
jobs_more : (d : Parts) (place : ℕ) (key : Key) (t : Stroke) (n g : ℕ) (j k : Kind × Job) (rest : Jobs) → IsDesk d → MayPaintAll d place key t n g (j ∷ k ∷ rest)
    → IsSmallRun (after_job d key n g j) (after_jobs (after_job d key n g j) key (suc n) g (k ∷ rest)) (k ∷ rest) place key (suc (length rest)) → IsSmallRun d (after_jobs d key n g (j ∷ k ∷ rest)) (j ∷ k ∷ rest) place key (suc (suc (length rest)))
jobs_more d place key t n g j k rest desk may others =
    subst (λ new. IsSmallRun d new (j ∷ k ∷ rest) place key (suc (suc (length rest)))) (more_is d key t n g j (k ∷ rest) (gone d t n desk may.begun may.at_head)) (record {
      desk = others.desk;
      run = one_then d place key t n g j (k ∷ rest) (suc (length rest)) _ desk (first_of d place key t n g j (k ∷ rest) may) others.run;
    })

-- all of them, one after another
jobs_run : (jobs : Jobs) (d : Parts) (place : ℕ) (key : Key) (t : Stroke) (n g : ℕ) (j : Kind × Job) → IsDesk d → MayPaintAll d place key t n g (j ∷ jobs) → IsSmallRun d (after_jobs d key n g (j ∷ jobs)) (j ∷ jobs) place key (suc (length jobs))
jobs_run [] d place key t n g j desk may =
    subst (λ new. IsSmallRun d new (j ∷ []) place key 1) (last_is d key n g j) (record {
      desk = one_desk d place key t n g j desk (first_of d place key t n g j [] may);
      run = one_then d place key t n g j [] 0 (state_of (after_job d key n g j)) desk (first_of d place key t n g j [] may) (refl, λ a. ((λ u. tt), (λ u. tt)));
    })
jobs_run (k ∷ rest) d place key t n g j desk may = jobs_more d place key t n g j k rest desk may
    (jobs_run rest (after_job d key n g j) place key t (suc n) g k (one_desk d place key t n g j desk (first_of d place key t n g j (k ∷ rest) may)) (rest_of d place key t n g j (k ∷ rest) desk may))

-- ---- what the desk's calls tell

module _ {A : Type 0} where
  drop_get : (n : ℕ) (xs : List A) (i : ℕ) → slice_get (drop n xs) i ≡ slice_get xs (n + i)
  drop_get zero xs i = ap (slice_get xs) flat
    where
      flat : i ≡ 0 + i
      flat = omega arith
  drop_get (suc n) [] i = refl
  drop_get (suc n) (y ∷ xs) i = drop_get n xs i ∙ ap (slice_get (y ∷ xs)) (shift n i)
    where
      shift : (a b : ℕ) → suc (a + b) ≡ suc a + b
      shift a b = omega arith

  all_get_from : (P : A → Type 0) (xs : List A) → ((i : ℕ) (x : A) → slice_get xs i ≡ Some x → P x) → AllByRecursion P xs
  all_get_from P [] each = tt
  all_get_from P (x ∷ xs) each = (each 0 x refl, all_get_from P xs (λ i. each (suc i)))

-- the next jobs, up to a barrier
pub record AreNext (d : Parts) (n : ℕ) (jobs : Jobs) : Type 0 where
  pub front : jobs ≡ take (length jobs) (drop n (jobs_in d.queue.left))
  pub clear : NoBarBehind jobs

next_get : (d : Parts) (t : Stroke) (n : ℕ) (jobs : Jobs) → IsDesk d → head_stroke (state_of d) ≡ Some t → AreNext d n jobs → (i : ℕ) (j : Kind × Job) → slice_get jobs i ≡ Some j → slice_get (kept_jobs t) (n + i) ≡ Some j
next_get d t n jobs desk h next i j e =
    ap (λ (js : Jobs). slice_get js (n + i)) (sym (queued_jobs d t desk h))
    ∙ sym (drop_get n (jobs_in d.queue.left) i)
    ∙ front_get (length jobs) (drop n (jobs_in d.queue.left)) i j (ap (λ (js : Jobs). slice_get js i) (sym next.front) ∙ e)

number_same : (a b : ℕ) → Some a ≡ Some b → a ≡ b
number_same a b e = cc

-- they are within the limits
pub next_fit : (d : Parts) (n : ℕ) (jobs : Jobs) → IsDesk d → IsAlone (state_of d) → AreNext d n jobs → All (λ (j : Kind × Job). within_limits j.1 ≡ true) jobs
next_fit d n jobs desk alone next = All-from_recursion (λ (j : Kind × Job). within_limits j.1 ≡ true) jobs (all_get_from (λ (j : Kind × Job). within_limits j.1 ≡ true) jobs
    (λ i j h. job_fits d alone.enabled.1.stroke (n + i) j desk alone.enabled.1.at_head (next_get d alone.enabled.1.stroke n jobs desk alone.enabled.1.at_head next i j h)))

-- there is one
pub next_below : (d : Parts) (n : ℕ) → IsDesk d → IsAlone (state_of d) → d.way ≡ Some n → n ≤ length (jobs_in d.queue.left)
next_below d n desk alone way =
    let above : suc alone.enabled.1.next ≤ length (kept_jobs alone.enabled.1.stroke) = length_above (kept_jobs alone.enabled.1.stroke) alone.enabled.1.next alone.enabled.1.job alone.enabled.1.is_next in
    let at : alone.enabled.1.next ≡ n = number_same _ _ (sym alone.enabled.1.begun ∙ way) in
    let long : length (jobs_in d.queue.left) ≡ length (kept_jobs alone.enabled.1.stroke) = ap length (queued_jobs d alone.enabled.1.stroke desk alone.enabled.1.at_head) in
    omega arith

-- the desk with what was painted
abbrev pub after_laid : Parts → Archive → Waiting → ℕ → ℕ → Parts
after_laid d store updates n count = record d { store = store; updates = updates; way = Some (n + count); next = d.next + count }

-- jobs that were painted in one hold
pub laid_run : (d : Parts) (n g : ℕ) (jobs : Jobs) (laid : Laid) (store : Archive) (updates : Waiting) → IsDesk d → (alone : IsAlone (state_of d)) → d.way ≡ Some n → ((s : Stroke) → head_stroke (state_of d) ≡ Some s → g ≡ parent_of s.layer d.store.present)
    → AreNext d n jobs → LaysRun jobs laid d.store store → updates ≡ waiting d.updates.canvas (updates_with_all d.updates.canvas g (writes_of (take laid.count jobs)) d.updates.patches) → IsSmallRun d (after_laid d store updates n laid.count) (take laid.count jobs) alone.place laid.key laid.count
laid_run d n g jobs laid store updates desk alone way told next run widened = go (take laid.count jobs) refl
  where
    s : StartStep (state_of d) alone.place alone.enabled.0
    s = alone.enabled.1

    at : s.next ≡ n
    at = number_same _ _ (sym s.begun ∙ way)

    long : length (take laid.count jobs) ≡ laid.count
    long = length-take-le laid.count jobs run.few

    may : (js : Jobs) → take laid.count jobs ≡ js → MayPaintAll d alone.place laid.key s.stroke n g js
    may js is = record {
      at_head = s.at_head;
      begun = way;
      not_cancelled = s.not_cancelled;
      no_overlap = s.no_overlap;
      free = s.free;
      idle = alone.idle;
      above = told s.stroke s.at_head;
      follow = follow;
      barrier = λ j h. subst (λ (k : Kind × Job). is_bar k.0 ≡ true → s.stroke.exclusive ≡ false → (no_walker (state_of d) ≡ true) × (d.updates.patches ≡ [])) (first j h) s.barrier;
      clear = λ i j h. next.clear i j (front_get laid.count jobs (suc i) j (ap (λ (ks : Jobs). slice_get ks (suc i)) is ∙ h));
      each = recursion_from_All (λ (j : Kind × Job). IsPointJob laid.key j.1) js (subst (All (λ (j : Kind × Job). IsPointJob laid.key j.1)) is run.each);
      within = recursion_from_All (λ (j : Kind × Job). is_within (tile laid.key) j.1 ≡ true) js (subst (All (λ (j : Kind × Job). is_within (tile laid.key) j.1 ≡ true)) is run.within);
    }
      where
        follow : (i : ℕ) (j : Kind × Job) → slice_get js i ≡ Some j → slice_get (kept_jobs s.stroke) (n + i) ≡ Some j
        follow i j h = next_get d s.stroke n jobs desk s.at_head next i j (front_get laid.count jobs i j (ap (λ (ks : Jobs). slice_get ks i) is ∙ h))

        job_same : (a b : Kind × Job) → Some a ≡ Some b → a ≡ b
        job_same a b e = cc

        first : (j : Kind × Job) → slice_get js 0 ≡ Some j → s.job ≡ j
        first j h =
            let here : s.next ≡ n + 0 = omega (arith, at) in
            job_same _ _ (sym s.is_next ∙ ap (slice_get (kept_jobs s.stroke)) here ∙ follow 0 j h)

    all : (js : Jobs) → take laid.count jobs ≡ js → after_jobs d laid.key n g js ≡ after_laid d store updates n laid.count
    all js is = λ i. record d {
      store = (ap (λ ks. with_painted d.store.way (spot ks laid.key) d.store) (sym is) ∙ sym run.new_is) i;
      updates = (ap (λ ks. waiting d.updates.canvas (updates_with_all d.updates.canvas g (writes_of ks) d.updates.patches)) (sym is) ∙ sym widened) i;
      way = Some (n + count i);
      next = d.next + count i;
    }
      where
        count : length js ≡ laid.count
        count = ap length (sym is) ∙ long

    go : (js : Jobs) → take laid.count jobs ≡ js → IsSmallRun d (after_laid d store updates n laid.count) js alone.place laid.key laid.count
    go [] is = absurd (let empty : length (take laid.count jobs) ≡ 0 = ap length is in omega (arith, run.some, empty, long))
    go (j ∷ js) is =
        subst (λ new. IsSmallRun d new (j ∷ js) alone.place laid.key laid.count) (all (j ∷ js) is)
        (subst (λ m. IsSmallRun d (after_jobs d laid.key n g (j ∷ js)) (j ∷ js) alone.place laid.key m) (ap length (sym is) ∙ long) (jobs_run js d alone.place laid.key s.stroke n g j desk (may (j ∷ js) is)))

-- what was laid, where something was
pub laid_there : (jobs : Jobs) (laid : Laid) (o : Option Laid) (old new : Archive) → o ≡ Some laid → IfSome o (λ (l : Laid). LaysRun jobs l old new) → LaysRun jobs laid old new
laid_there jobs laid o old new is told = subst (λ (p : Option Laid). IfSome p (λ (l : Laid). LaysRun jobs l old new)) is told

-- so they were painted
pub paints_small : (d new : Parts) (jobs : Jobs) (place count : ℕ) (key : Key) (bound : Area) → no_painter (state_of d) ≡ true → 1 ≤ count → IsSmallRun d new jobs place key count → IsLeastRound jobs bound → PaintsSmall (state_of d) bound (state_of new)
paints_small d new jobs place count key bound idle some small round = record {
  place = place;
  key = key;
  count = count;
  idle = idle;
  some = some;
  run = small.run.0;
  within = (small.run.1 bound).1 (recursion_from_All (λ (j : Kind × Job). WritesWithin bound j.1) jobs round.within);
  least = λ a starts. round.least a (All-from_recursion (λ (j : Kind × Job). WritesWithin a j.1) jobs ((small.run.1 a).0 starts));
}

-- serials fit, so many more too
pub serials_fit : (d : Parts) → IsDesk d → d.next + 4096 < 2 ^ 64
serials_fit d desk =
    let a : d.next + length d.updates.patches ≤ 65 * length d.fed + 17 = serials_are_few (state_of d) desk.sound.orderly in
    let b : length d.fed ≤ 2 ^ 32 - 1 = desk.few in
    omega arith
