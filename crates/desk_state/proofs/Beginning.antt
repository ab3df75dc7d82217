-- A stroke that begins, and a job that starts: what the desk does is the event of the machine.
use Rattle.std.proofs.Common.{◌≡◌, ℕ, suc, Bool, true, false, Some, None, is_some, [], refl, sym, ap, ◌∙◌, subst}
use Rattle.std.specs.Prelude.{slice_get, slice_set}
use Rattle.std.specs.List.{list_any}
use Rattle.std.specs.FinSet as set
use Rattle.geom_core.specs.Grid.{Key, key_cmp}
use Rattle.doc_model.specs.declared.job.Job.{Job}
use Rattle.doc_model.specs.declared.job.Kind.{Kind}
use Rattle.doc_model.specs.Jobs.{reads, checks}
use Rattle.doc_model.specs.Shots.{shot_of}
use Rattle.doc_model.specs.Lawful.{within_limits}
use Rattle.doc_model.specs.Strokes.{Stroke, Fate}
use Rattle.tile_core.specs.Shots.{Sight}
use Rattle.job_core.specs.Paints.{layer_of}
use Rattle.stroke_core.specs.Fed.{Fed}
use Rattle.desk_steps.specs.Archives.{layer_under_way}
use Rattle.machine_model.specs.State.{Paints}
use Rattle.machine_model.specs.Event.{Init, Start}
use Rattle.machine_model.specs.Step.{Step}
use Rattle.machine_model.specs.Slots.{no_walker}
use Rattle.machine_model.specs.Painters.{painter_in}
use Rattle.machine_model.specs.Guards.{kept_jobs, is_cancelled, is_paint, blocks, is_bar}
use Rattle.machine_model.specs.Effects.{layer_in}
use Rattle.machine_model.proofs.Lists.{all_set}
use Rattle.machine_model.proofs.StartWay.{not_started}
use Rattle.machine_model.proofs.RunsSound.{step_keeps_sound}
use Rattle.desk_state.specs.Noted.{noted}
use Rattle.desk_state.specs.Parts.{Parts, state_of, slot_of, painter_of}
use Rattle.desk_state.specs.Tied.{IsDesk, IsWay, IsBegun, IsKept}
use Rattle.desk_state.specs.After.{after_init, after_start, starting, busy_painter}
use Rattle.desk_state.proofs.Keeping.{map_set, held, IsGoing, going}
use Rattle.desk_state.proofs.Heads.{IsStrokeHead}
use Rattle.desk_state.proofs.Noting.{noted_started}

-- whether a stroke was closed by cancel
abbrev pub cancels : Fate → Bool
cancels fate = is_cancelled (record { no = 0; layer = 0; exclusive = false; jobs = []; fate = fate })

-- the stroke at the head may begin
pub record MayBegin (d : Parts) (fate : Fate) (f : Fed) : Type 0 where
  pub head : IsStrokeHead d fate f
  pub not_begun : d.way ≡ None
  pub not_cancelled : cancels fate ≡ false
  pub no_overlap : f.overlap ≡ None
  pub on_paint : is_paint f.layer d.store.base ≡ true
  pub alone : f.exclusive ≡ true → no_walker (state_of d) ≡ true

pub init_step : (d : Parts) (fate : Fate) (f : Fed) → MayBegin d fate f → Step (state_of d) Init (state_of (after_init d f.layer))
init_step d fate f may = record {
  stroke = may.head.stroke;
  at_head = may.head.at_head;
  not_begun = may.not_begun;
  not_cancelled = ap cancels may.head.fate_is ∙ may.not_cancelled;
  no_overlap = ap is_some (ap (λ (g : Fed). g.overlap) may.head.kept_is ∙ may.no_overlap);
  on_paint = ap (λ (g : Fed). is_paint g.layer d.store.base) may.head.kept_is ∙ may.on_paint;
  alone = λ e. may.alone (sym (ap (λ (g : Fed). g.exclusive) may.head.kept_is) ∙ e);
  new_is = refl;
}

pub init_keeps : (d : Parts) (fate : Fate) (f : Fed) → IsDesk d → MayBegin d fate f → IsDesk (after_init d f.layer)
init_keeps d fate f desk may = record {
  sound = step_keeps_sound (state_of d) (state_of (after_init d f.layer)) Init desk.sound (init_step d fate f may);
  queue = desk.queue;
  way = record {
    stroke = may.head.stroke;
    at_head = may.head.at_head;
    keys = set.empty;
    way = ap (λ (g : Fed). Some (g.layer, set.empty)) (sym may.head.kept_is);
    notes = λ k. set.contains-empty key_cmp k;
    room = refl;
  };
  slots = desk.slots;
  area = desk.area;
  few = desk.few;
  sides = desk.sides;
}

-- the next job of the stroke at the head may start in a slot
pub record MayStart (d : Parts) (fate : Fate) (f : Fed) (place n : ℕ) (job : Kind × Job) (shot : Sight) : Type 0 where
  pub head : IsStrokeHead d fate f
  pub begun : d.way ≡ Some n
  pub not_cancelled : cancels fate ≡ false
  pub no_overlap : f.overlap ≡ None
  pub free : slice_get d.slots place ≡ Some None
  pub is_next : slice_get f.jobs n ≡ Some job
  pub unblocked : list_any (blocks f.jobs job.0) (state_of d).slots ≡ false
  pub barrier : is_bar job.0 ≡ true → f.exclusive ≡ false → (no_walker (state_of d) ≡ true) × (d.updates.patches ≡ [])
  pub rects : shot.rects ≡ reads job.1
  pub checked : checks job.1 ≡ true
  pub limits : within_limits job.1 ≡ true
  pub shows : layer_of shot ≡ shot_of (reads job.1) (layer_under_way d.store.way d.store.present)

pub start_step : (d : Parts) (fate : Fate) (f : Fed) (place n : ℕ) (job : Kind × Job) (shot : Sight) → IsDesk d → MayStart d fate f place n job shot → Step (state_of d) (Start place) (state_of (after_start d place n job.1 shot))
start_step d fate f place n job shot desk may = record {
  stroke = may.head.stroke;
  at_head = may.head.at_head;
  next = n;
  begun = may.begun;
  not_cancelled = ap cancels may.head.fate_is ∙ may.not_cancelled;
  no_overlap = ap is_some (ap (λ (g : Fed). g.overlap) may.head.kept_is ∙ may.no_overlap);
  free = held d place _ may.free;
  job = job;
  is_next = ap (λ (g : Fed). slice_get g.jobs n) may.head.kept_is ∙ may.is_next;
  unblocked = ap (λ (g : Fed). list_any (blocks g.jobs job.0) (state_of d).slots) may.head.kept_is ∙ may.unblocked;
  barrier = λ b e. may.barrier b (sym (ap (λ (g : Fed). g.exclusive) may.head.kept_is) ∙ e);
  new_is = λ i. record (state_of d) {
    way = Some (suc n);
    next = suc d.next;
    slots = (map_set slot_of d.slots place (Some (busy_painter (starting d n job.1 shot)))
        ∙ ap (λ l. slice_set (state_of d).slots place (Paints (record { serial = d.next; index = n; job = job.1; shot = l; published = [] }))) shows) i;
  };
}
  where
    g : IsGoing d
    g = going d n desk may.begun

    some_stroke : (a b : Stroke) → Some a ≡ Some b → a ≡ b
    some_stroke a b e = cc

    shows : layer_of shot ≡ shot_of (reads job.1) (layer_in may.head.stroke.layer d.store.present)
    shows = may.shows
        ∙ ap (λ w. shot_of (reads job.1) (layer_under_way w d.store.present)) g.begun.way
        ∙ ap (λ (s : Stroke). shot_of (reads job.1) (layer_in s.layer d.store.present)) (some_stroke _ _ (sym g.begun.at_head ∙ may.head.at_head))

pub start_keeps : (d : Parts) (fate : Fate) (f : Fed) (place n : ℕ) (job : Kind × Job) (shot : Sight) → IsDesk d → MayStart d fate f place n job shot → IsDesk (after_start d place n job.1 shot)
start_keeps d fate f place n job shot desk may = record {
  sound = step_keeps_sound (state_of d) (state_of new) (Start place) desk.sound (start_step d fate f place n job shot desk may);
  queue = desk.queue;
  way = record {
    stroke = b.stroke;
    at_head = b.at_head;
    keys = b.keys;
    way = b.way;
    notes = notes;
    room = b.room;
  };
  slots = all_set IsKept d.slots place _ desk.slots (refl, may.rects, may.checked, may.limits);
  area = desk.area;
  few = desk.few;
  sides = desk.sides;
}
  where
    new : Parts
    new = after_start d place n job.1 shot

    b : IsBegun (state_of d) d.store n
    b = subst (IsWay (state_of d) d.store) may.begun desk.way

    g : IsGoing d
    g = going d n desk may.begun

    some_number : (x y : ℕ) → Some x ≡ Some y → x ≡ y
    some_number x y e = cc

    none : painter_in n (state_of d).slots ≡ None
    none = ap (λ m. painter_in m (state_of d).slots) (some_number _ _ (sym may.begun ∙ g.way)) ∙ not_started (kept_jobs g.under.stroke) g.n (state_of d).slots g.under.started

    notes : (k : Key) → set.contains b.keys k ≡ noted (kept_jobs b.stroke) (state_of new).slots (suc n) k
    notes k =
        b.notes k
        ∙ sym (noted_started (kept_jobs b.stroke) (state_of d).slots place (painter_of (starting d n job.1 shot)) n k (held d place _ may.free) none refl refl)
        ∙ ap (λ slots. noted (kept_jobs b.stroke) slots (suc n) k) (sym (map_set slot_of d.slots place (Some (busy_painter (starting d n job.1 shot)))))
