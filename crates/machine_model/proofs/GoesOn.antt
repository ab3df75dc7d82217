-- A state that is neither settled nor waits for commands goes on.
use Rattle.std.proofs.Common.{◌≡◌, ℕ, suc, zero, ◌≤◌, Bool, true, false, ◌||◌, not, List, [], ◌∷◌, Option, Some, None, length, drop, map, refl, sym, ap, ◌∙◌, arith, subst, ◌⊎◌, inl, inr}
use Rattle.std.specs.Prelude.{slice_get}
use Rattle.std.specs.List.{list_any, list_all}
use Rattle.geom_core.proofs.Tests.{true_or_false, is_some-None}
use Rattle.geom_core.specs.Grid.{Key, same_key, keys_of, all_keys_of}
use Rattle.doc_model.specs.declared.job.Job.{Job}
use Rattle.doc_model.specs.declared.job.Kind.{Kind}
use Rattle.doc_model.specs.declared.canvas.Patch.{Patch}
use Rattle.doc_model.specs.Jobs.{writes}
use Rattle.doc_model.specs.Strokes.{Jobs, Stroke, Fate, Open, Ended, Cancelled, Entry, Strokes, Changes, Undoes, Redoes, Purges, Exports, entries, conflict, is_open}
use Rattle.machine_model.specs.State.{Child, State, Painter, Walker, Slot, Free, Paints, Walks, head, head_stroke, stroke_of, first, is_free}
use Rattle.machine_model.specs.Settled.{IsSettled}
use Rattle.machine_model.specs.Event.{Init, Start, Publish, End, Finish, Cancel, Act, WalkStart, WalkPublish, WalkEnd}
use Rattle.machine_model.specs.Slots.{is_painter, is_walker, no_painter, no_walker}
use Rattle.machine_model.specs.Groups.{on}
use Rattle.machine_model.specs.Guards.{kept_jobs, is_cancelled, is_ended, is_closed, overlaps, is_paint, is_exclusive, is_bar, blocks, same_pair, meets_walker}
use Rattle.machine_model.specs.UnderWay.{UnderWay, IsOnWay}
use Rattle.machine_model.specs.Sound.{IsOrderly}
use Rattle.machine_model.specs.MeaningLaws.{MayGoOn, NoDeadEnd, waits_for_commands}
use Rattle.machine_model.proofs.JobKeeps.{painting}
use Rattle.machine_model.proofs.SlotSearch.{search_keys, search_pairs, search_slots}

-- a job at work goes on
painter_goes : (s : State) (place : ℕ) (w : Painter) → IsOrderly s → slice_get s.slots place ≡ Some (Paints w) → MayGoOn s
painter_goes s place w sound runs = go (search_keys (λ key. list_any (same_key key) w.published) (all_keys_of (writes w.job)))
  where
    under : (n : ℕ) × (s.way ≡ Some n) × UnderWay s n
    under = painting s place w runs s.way sound.on_way

    go : ((key : Key) → list_any (same_key key) (all_keys_of (writes w.job)) ≡ true → list_any (same_key key) w.published ≡ true)
        ⊎ ((key : Key) × (list_any (same_key key) (all_keys_of (writes w.job)) ≡ true) × (list_any (same_key key) w.published ≡ false)) → MayGoOn s
    go (inl all) = record {
      event = End place;
      not_feed = refl;
      new = _;
      step = record { painter = w; runs = runs; all = all; stroke = under.2.stroke; at_head = under.2.at_head; new_is = refl };
    }
    go (inr found) = record {
      event = Publish place found.0;
      not_feed = refl;
      new = _;
      step = record { painter = w; runs = runs; in_job = found.1; fresh = found.2; stroke = under.2.stroke; at_head = under.2.at_head; new_is = refl };
    }

-- a walk at work goes on
walker_goes : (s : State) (place : ℕ) (w : Walker) → slice_get s.slots place ≡ Some (Walks w) → MayGoOn s
walker_goes s place w runs = go (search_pairs (λ g key. list_any (same_pair g key) w.published) (keys_of w.patch.rect) (map (λ (e : ℕ × List Child). e.0) w.shot))
  where
    go : ((g : ℕ) (key : Key) → on g (map (λ (e : ℕ × List Child). e.0) w.shot) ≡ true → list_any (same_key key) (keys_of w.patch.rect) ≡ true → list_any (same_pair g key) w.published ≡ true)
        ⊎ ((g : ℕ) × (key : Key) × (on g (map (λ (e : ℕ × List Child). e.0) w.shot) ≡ true) × (list_any (same_key key) (keys_of w.patch.rect) ≡ true) × (list_any (same_pair g key) w.published ≡ false)) → MayGoOn s
    go (inl all) = record { event = WalkEnd place; not_feed = refl; new = _; step = record { walker = w; runs = runs; all = all; new_is = refl } }
    go (inr found) = record {
      event = WalkPublish place found.0 found.1;
      not_feed = refl;
      new = _;
      step = record { walker = w; runs = runs; on_path = found.2; in_patch = found.3; fresh = found.4; new_is = refl };
    }

busy_goes : (s : State) (place : ℕ) (slot : Slot) → IsOrderly s → slice_get s.slots place ≡ Some slot → is_free slot ≡ false → MayGoOn s
busy_goes s place Free sound at busy = cc
busy_goes s place (Paints w) sound at busy = painter_goes s place w sound at
busy_goes s place (Walks w) sound at busy = walker_goes s place w at

-- where all slots are free nobody paints or walks, and the first one is free
none_at_work : (test : Slot → Bool) → test Free ≡ false → (slots : List Slot) → list_all is_free slots ≡ true → list_any test slots ≡ false
none_at_work test h [] free = refl
none_at_work test h (Free ∷ slots) free = ap (λ b. b || list_any test slots) h ∙ none_at_work test h slots free
none_at_work test h (Paints w ∷ slots) free = cc
none_at_work test h (Walks w ∷ slots) free = cc

first_free : (slots : List Slot) → 1 ≤ length slots → list_all is_free slots ≡ true → slice_get slots 0 ≡ Some Free
first_free [] some free = absurd (omega arith)
first_free (Free ∷ slots) some free = refl
first_free (Paints w ∷ slots) some free = cc
first_free (Walks w ∷ slots) some free = cc

-- a job of the list, or all were started
next_job : (jobs : Jobs) (n : ℕ) → n ≤ length jobs → ((job : Kind × Job) × (slice_get jobs n ≡ Some job)) ⊎ (n ≡ length jobs)
next_job [] n few = inr (omega arith)
next_job (j ∷ jobs) zero few = inl (j, refl)
next_job (j ∷ jobs) (suc n) few = elim (next_job jobs n (omega arith)) [ inl found ↦ inl (found.0, found.1) | inr e ↦ inr (ap suc e) ]

not_exclusive : (o : Option Stroke) (w : Option ℕ) → ((stroke : Stroke) → o ≡ Some stroke → stroke.exclusive ≡ false) → is_exclusive o w ≡ false
not_exclusive None w h = refl
not_exclusive (Some stroke) None h = refl
not_exclusive (Some stroke) (Some n) h = h stroke refl

module _ (s : State) (sound : IsOrderly s) (free : list_all is_free s.slots ≡ true) where
  at_first : slice_get s.slots 0 ≡ Some Free
  at_first = first_free s.slots sound.counted.slots.0 free

  no_walks : no_walker s ≡ true
  no_walks = ap not (none_at_work is_walker refl s.slots free)

  no_jobs : no_painter s ≡ true
  no_jobs = ap not (none_at_work is_painter refl s.slots free)

  -- a patch that waits is walked
  patch_goes : (p : Patch) (ps : List Patch) → s.updates ≡ p ∷ ps → is_exclusive (head_stroke s) s.way ≡ false → MayGoOn s
  patch_goes p ps e open_to_walks = record {
    event = WalkStart 0 p;
    not_feed = refl;
    new = _;
    step = record { i = 0; waits = ap (λ us. slice_get us 0) e; free = at_first; not_exclusive = open_to_walks; avoids = none_at_work (meets_walker p.rect) refl s.slots free; new_is = refl };
  }

  -- so the updates are empty, or the machine goes on
  updates_or : is_exclusive (head_stroke s) s.way ≡ false → (us : List Patch) → s.updates ≡ us → (s.updates ≡ []) ⊎ MayGoOn s
  updates_or open_to_walks [] e = inl e
  updates_or open_to_walks (p ∷ ps) e = inr (patch_goes p ps e open_to_walks)

  -- what a barrier waits for
  abbrev Barred : Stroke → Kind → Type 0
  Barred stroke kind = is_bar kind ≡ true → stroke.exclusive ≡ false → (no_walker s ≡ true) × (s.updates ≡ [])

  job_goes : (stroke : Stroke) (n : ℕ) (job : Kind × Job) → head_stroke s ≡ Some stroke → s.way ≡ Some n → is_cancelled stroke ≡ false → overlaps stroke ≡ false → slice_get (kept_jobs stroke) n ≡ Some job → Barred stroke job.0 → MayGoOn s
  job_goes stroke n job at_head begun alive clear next barrier = record {
    event = Start 0;
    not_feed = refl;
    new = _;
    step = record {
      stroke = stroke;
      at_head = at_head;
      next = n;
      begun = begun;
      not_cancelled = alive;
      no_overlap = clear;
      free = at_first;
      job = job;
      is_next = next;
      unblocked = none_at_work (blocks (kept_jobs stroke) job.0) refl s.slots free;
      barrier = barrier;
      new_is = refl;
    };
  }

  start_goes : (stroke : Stroke) (n : ℕ) (job : Kind × Job) → head_stroke s ≡ Some stroke → s.way ≡ Some n → is_cancelled stroke ≡ false → overlaps stroke ≡ false → slice_get (kept_jobs stroke) n ≡ Some job → MayGoOn s
  start_goes stroke n job at_head begun alive clear next = go (true_or_false stroke.exclusive)
    where
      go : (stroke.exclusive ≡ true) ⊎ (stroke.exclusive ≡ false) → MayGoOn s
      go (inl alone) = job_goes stroke n job at_head begun alive clear next (λ bar other. (let f : true ≡ false = sym alone ∙ other in cc))
      go (inr shared) = elim (updates_or (not_exclusive (head_stroke s) s.way (λ t e. (let same : Some stroke ≡ Some t = sym at_head ∙ e in let one : stroke ≡ t = cc in ap (λ (u : Stroke). u.exclusive) (sym one) ∙ shared))) s.updates refl) [
        | inl none ↦ job_goes stroke n job at_head begun alive clear next (λ bar other. (no_walks, none))
        | inr on ↦ on
      ]

  ended_goes : (stroke : Stroke) → head_stroke s ≡ Some stroke → is_ended stroke ≡ true → is_cancelled stroke ≡ false → overlaps stroke ≡ false → (b : Bool) → is_paint stroke.layer s.base ≡ b → (w : Option ℕ) → s.way ≡ w → IsOnWay s w → MayGoOn s
  ended_goes stroke at_head ended alive clear false paint w begun way = record {
    event = Finish;
    not_feed = refl;
    new = _;
    step = record { stroke = stroke; at_head = at_head; ended = ended; no_overlap = clear; all_ended = λ e. (let f : true ≡ false = sym e ∙ paint in cc); new_is = refl };
  }
  ended_goes stroke at_head ended alive clear true paint None begun way = record {
    event = Init;
    not_feed = refl;
    new = _;
    step = record { stroke = stroke; at_head = at_head; not_begun = begun; not_cancelled = alive; no_overlap = clear; on_paint = paint; alone = λ e. no_walks; new_is = refl };
  }
  ended_goes stroke at_head ended alive clear true paint (Some n) begun way = go (next_job (kept_jobs stroke) n few)
    where
      few : n ≤ length (kept_jobs stroke)
      few = let e : Some way.stroke ≡ Some stroke = sym way.at_head ∙ at_head in let one : way.stroke ≡ stroke = cc in subst (λ (t : Stroke). n ≤ length (kept_jobs t)) one way.few

      whole : kept_jobs stroke ≡ stroke.jobs
      whole = let c : conflict stroke.jobs ≡ None = is_some-None (conflict stroke.jobs) clear in rw c refl

      go : ((job : Kind × Job) × (slice_get (kept_jobs stroke) n ≡ Some job)) ⊎ (n ≡ length (kept_jobs stroke)) → MayGoOn s
      go (inl next) = start_goes stroke n next.0 at_head begun alive clear next.1
      go (inr all) = record {
        event = Finish;
        not_feed = refl;
        new = _;
        step = record { stroke = stroke; at_head = at_head; ended = ended; no_overlap = clear; all_ended = λ e. (begun ∙ ap Some (all ∙ ap length whole), no_jobs); new_is = refl };
      }

  stroke_goes : (stroke : Stroke) → head_stroke s ≡ Some stroke → is_open stroke.fate ≡ false → MayGoOn s
  stroke_goes stroke at_head closed = go stroke.fate refl (true_or_false (overlaps stroke))
    where
      cancel : is_closed stroke ≡ true → (is_cancelled stroke || overlaps stroke) ≡ true → MayGoOn s
      cancel shut refused = record { event = Cancel; not_feed = refl; new = _; step = record { stroke = stroke; at_head = at_head; closed = shut; refused = refused; idle = no_jobs; new_is = refl } }

      go : (f : Fate) → stroke.fate ≡ f → (overlaps stroke ≡ true) ⊎ (overlaps stroke ≡ false) → MayGoOn s
      go Open e o = absurd (let t : true ≡ false = rw e at closed in cc)
      go Cancelled e o = cancel (rw e refl) (rw e refl)
      go Ended e (inl o) = cancel (rw e refl) (rw (e, o) refl)
      go Ended e (inr o) = ended_goes stroke at_head (rw e refl) (rw e refl) o (is_paint stroke.layer s.base) refl s.way refl sound.on_way

  entry_acts : (entry : Entry) → head s ≡ Some entry → head_stroke s ≡ None → (entry ≡ Exports → s.updates ≡ []) → MayGoOn s
  entry_acts entry at_head no_stroke clean = record { event = Act; not_feed = refl; new = _; step = record { entry = entry; at_head = at_head; no_stroke = no_stroke; no_walks = no_walks; clean = clean; new_is = refl } }

  head_goes : (o : Option Entry) → head s ≡ o → waits_for_commands s ≡ false → (IsSettled s → ⊥) → MayGoOn s
  head_goes None e waits unsettled = elim (updates_or (ap (λ o. is_exclusive (stroke_of o) s.way) e) s.updates refl) [
    | inl none ↦ absurd (unsettled (record { entries = all_out (length s.outcomes) (entries s.fed) sound.told.few e; slots = free; updates = none }))
    | inr on ↦ on
  ]
    where
      all_out : (n : ℕ) (es : List Entry) → n ≤ length es → first (drop n es) ≡ None → n ≡ length es
      all_out zero [] l h = refl
      all_out zero (x ∷ es) l h = cc
      all_out (suc n) [] l h = absurd (omega arith)
      all_out (suc n) (x ∷ es) l h = ap suc (all_out n es (omega arith) h)
  head_goes (Some (Strokes stroke)) e waits unsettled = stroke_goes stroke (ap stroke_of e) (rw e at waits)
  head_goes (Some (Changes c)) e waits unsettled = entry_acts (Changes c) e (ap stroke_of e) (λ f. cc)
  head_goes (Some Undoes) e waits unsettled = entry_acts Undoes e (ap stroke_of e) (λ f. cc)
  head_goes (Some Redoes) e waits unsettled = entry_acts Redoes e (ap stroke_of e) (λ f. cc)
  head_goes (Some (Purges n)) e waits unsettled = entry_acts (Purges n) e (ap stroke_of e) (λ f. cc)
  head_goes (Some Exports) e waits unsettled = elim (updates_or (ap (λ o. is_exclusive (stroke_of o) s.way) e) s.updates refl) [
    | inl none ↦ entry_acts Exports e (ap stroke_of e) (λ f. none)
    | inr on ↦ on
  ]

pub no_dead_end : NoDeadEnd
no_dead_end s sound unsettled waits = elim (search_slots s.slots) [
  | inl free ↦ head_goes s sound free (head s) refl waits unsettled
  | inr found ↦ busy_goes s found.0 found.1 sound found.2 found.3
]
